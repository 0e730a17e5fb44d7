use Rattle.std.proofs.Common.{List, length, ap, subst, arith}
use Rattle.std.specs.List.{filter}
use Rattle.std.proofs.lemmas.List.{length-map, take_all}
use Rattle.git_model.specs.Repository.{Object}
use Rattle.git_model.specs.Reach.{is_referred_to}
use Rattle.export_text.proofs.Flagged.{kept-none, kept-one, within}
use Rattle.repository_copies.proofs.ObjectSteps.{AreAdded, none-added, one-added}
use Rattle.repository_copies.proofs.copying.add_reached.Goals as goal
use Rattle.repository_copies.proofs.copying.add_reached.Goals.{then-is_reached+in_ok-add_object, else-is_reached}

pub loop-place-init : goal.loop-place-init
loop-place-init g c refs good flags are empty = none-added c.args.objects.now c.args.found.now are empty

pub loop-place-preserved : goal.loop-place-preserved
loop-place-preserved g c refs good flags are empty =
    let os = c.args.objects.now in
    let i = c.loop-place.place in
    let lt = c.loop-place-test.true in
    let set = λ (o : Object). is_referred_to (record { objects = os; refs = refs }) o.id in
    let before = c.loop-place.invariant refs good flags are empty in
    elim c.if-is_reached.branch [
      | then-is_reached+in_ok-add_object w ↦
          let here = within os set c.args.reached.now i flags lt in
          rw w.found-is (one-added g.N.Naming.digest_of os good i here _ _ c.loop-place.found w.add_object.new.found
          (kept-one os set c.args.reached.now i flags lt w.if-is_reached.true) before
          (w.in_ok-add_object.ensures good here before.found before.whole))
      | else-is_reached w ↦
          rw w.found-is (rw (kept-none os set c.args.reached.now i flags lt w.if-is_reached.false) before)
    ]

pub returns : goal.returns
returns g c refs good flags are empty =
    let os = c.args.objects.now in
    let set = λ (o : Object). is_referred_to (record { objects = os; refs = refs }) o.id in
    let n = ap length flags in
    let m = length-map os set in
    let all = subst (λ (xs : List Object). AreAdded os (filter set xs) c.loop-place.found)
    (take_all c.loop-place.place os (omega (arith, n, m))) (c.loop-place.invariant refs good flags are empty) in
    record { places = all.found; objects = all.objects }

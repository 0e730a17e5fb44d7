use Rattle.std.proofs.Common.{List, map, length, sym, ap, ◌∙◌, arith}
use Rattle.std.specs.List.{filter}
use Rattle.std.proofs.lemmas.List.{take_all, length-map}
use Rattle.git_model.specs.Repository.{Object}
use Rattle.git_model.specs.References.{object_at}
use Rattle.commit_walk.specs.Logs.{log_key}
use Rattle.commit_walk.proofs.LogOrder.{one_key, no_key, there_too, flag_tells}
use Rattle.commit_walk.proofs.log.keys_of.Goals as goal
use Rattle.commit_walk.proofs.log.keys_of.Goals.{then-flag+in_ok-push_key, else-flag}

pub loop-place-init : goal.loop-place-init
loop-place-init g c set good is commits = c.in_ok-keys.ensures.items

pub loop-place-preserved : goal.loop-place-preserved
loop-place-preserved g c set good is commits =
    let os = c.args.objects.now in
    let flags = c.args.flags.now in
    let i = c.loop-place.place in
    let lt = c.loop-place-test.true in
    let had = c.loop-place.invariant set good is commits in
    elim c.if-flag.branch [
      | then-flag+in_ok-push_key w ↦
          rw w.keys-is (one_key os set flags is i lt c.loop-place.keys.items _ w.if-flag.true had
          (w.in_ok-push_key.ensures good (there_too os set flags is i lt)
          (commits (object_at i os).id (sym (flag_tells os set flags is i lt) ∙ w.if-flag.true))))
      | else-flag w ↦
          rw w.keys-is (no_key os set flags is i lt c.loop-place.keys.items w.if-flag.false had)
    ]

pub returns : goal.returns
returns g c set good is commits =
    let n = ap length is in
    let m = length-map c.args.objects.now (λ (o : Object). set o.id) in
    c.loop-place.invariant set good is commits
    ∙ ap (λ (xs : List Object). map (λ (o : Object). log_key c.args.objects.now o.id) (filter (λ (o : Object). set o.id) xs))
    (take_all c.loop-place.place c.args.objects.now (omega arith))

use Rattle.std.proofs.Common.{◌+◌, ◌++◌, List, length, take, sym, ap, ◌∙◌, arith, append-nil}
use Rattle.std.specs.List.{filter, flat_map}
use Rattle.std.proofs.lemmas.List.{take_all, length-map}
use Rattle.git_model.specs.Repository.{Object}
use Rattle.git_model.specs.References.{object_at}
use Rattle.git_model.specs.Reach.{is_referred_to}
use Rattle.export_text.specs.ItemText.{items_text}
use Rattle.export_text.specs.ExportItems.{items_of_object}
use Rattle.export_text.proofs.Pieces.{more, kept_twice}
use Rattle.export_text.proofs.Flagged.{within, kept-one, kept-none}
use Rattle.export_text.proofs.object_text.append_objects.Goals as goal
use Rattle.export_text.proofs.object_text.append_objects.Goals.{then-is_reached+in_ok-append_object, else-is_reached}

pub loop-place-init : goal.loop-place-init
loop-place-init g c = record {
  kept = take_all (length c.args.out.now.items) c.args.out.now.items (omega arith);
  written = λ refs good are. sym (append-nil c.args.out.now.items);
  in_mind = λ good. c.in_ok-told.ensures c.args.objects.now c.args.out.now.items;
}

pub loop-place-preserved : goal.loop-place-preserved
loop-place-preserved g c =
    let os = c.args.objects.now in
    let i = c.loop-place.place in
    let lt = c.loop-place-test.true in
    elim c.if-is_reached.branch [
      | then-is_reached+in_ok-append_object w ↦ record {
        kept = rw w.out-is (kept_twice c.args.out.now.items c.loop-place.out.items w.append_object.new.out.items
            c.loop-place.invariant.kept w.in_ok-append_object.ensures.kept);
        written = λ refs good are.
            let set = λ (o : Object). is_referred_to (record { objects = os; refs = refs }) o.id in
            rw w.out-is (more (items_of_object os) c.args.out.now.items c.loop-place.out.items w.append_object.new.out.items
            (filter set (take i os)) (filter set (take (i + 1) os)) (object_at i os)
            (kept-one os set c.args.reached.now i are lt w.if-is_reached.true)
            (c.loop-place.invariant.written refs good are)
            (w.in_ok-append_object.ensures.written good (c.loop-place.invariant.in_mind good) (within os set c.args.reached.now i are lt)));
        in_mind = λ good. rw w.out-is (rw w.told-is (w.in_ok-append_object.ensures.in_mind good (c.loop-place.invariant.in_mind good)));
      }
      | else-is_reached w ↦ record {
        kept = rw w.out-is c.loop-place.invariant.kept;
        written = λ refs good are.
            let set = λ (o : Object). is_referred_to (record { objects = os; refs = refs }) o.id in
            rw w.out-is (c.loop-place.invariant.written refs good are
            ∙ ap (λ xs. c.args.out.now.items ++ items_text (flat_map (items_of_object os) xs))
            (sym (kept-none os set c.args.reached.now i are lt w.if-is_reached.false)));
        in_mind = λ good. rw w.out-is (rw w.told-is (c.loop-place.invariant.in_mind good));
      }
    ]

pub returns-clause-written : goal.returns-clause-written
returns-clause-written g c refs good are =
    let n = ap length are in
    let m = length-map c.args.objects.now (λ (o : Object). is_referred_to (record { objects = c.args.objects.now; refs = refs }) o.id) in
    c.loop-place.invariant.written refs good are
    ∙ ap (λ (xs : List Object). c.args.out.now.items ++ items_text (flat_map (items_of_object c.args.objects.now)
    (filter (λ (o : Object). is_referred_to (record { objects = c.args.objects.now; refs = refs }) o.id) xs)))
    (take_all c.loop-place.place c.args.objects.now (omega arith))

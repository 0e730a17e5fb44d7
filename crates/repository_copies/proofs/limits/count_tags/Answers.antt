use Rattle.std.proofs.Common.{arith}
use Rattle.git_model.specs.Repository.{Object}
use Rattle.git_model.specs.Reach.{is_referred_to}
use Rattle.export_text.proofs.Flagged.{within}
use Rattle.repository_copies.proofs.Counting.{counted-none, counted-one}
use Rattle.repository_copies.proofs.limits.count_tags.Goals as goal
use Rattle.repository_copies.proofs.limits.count_tags.Goals.{else-is_reached_tag, then-is_reached_tag}

pub loop-place-preserved : goal.loop-place-preserved
loop-place-preserved g c =
    let os = c.args.objects.now in
    let flags = c.args.reached.now in
    let i = c.loop-place.place in
    let lt = c.loop-place-test.true in
    let few = c.loop-place.invariant.few in
    elim c.if-is_reached_tag.branch [
      | then-is_reached_tag w ↦ record {
        few = rw w.tags-is (omega (arith, few));
        counted = λ refs are.
            let set = λ (o : Object). is_referred_to (record { objects = os; refs = refs }) o.id in
            rw w.tags-is (counted-one os set flags i are lt c.loop-place.tags (c.loop-place.invariant.counted refs are)
            c.is_reached_tag.result (c.is_reached_tag.ensures (within os set flags i are lt)) w.if-is_reached_tag.true);
      }
      | else-is_reached_tag w ↦ record {
        few = rw w.tags-is (omega (arith, few));
        counted = λ refs are.
            let set = λ (o : Object). is_referred_to (record { objects = os; refs = refs }) o.id in
            rw w.tags-is (counted-none os set flags i are lt c.loop-place.tags (c.loop-place.invariant.counted refs are)
            c.is_reached_tag.result (c.is_reached_tag.ensures (within os set flags i are lt)) w.if-is_reached_tag.false);
      }
    ]

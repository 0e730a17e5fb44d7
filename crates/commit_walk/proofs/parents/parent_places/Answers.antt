use Rattle.std.proofs.Common.{ℕ, map, ◌+◌, ap, ◌∙◌, arith, length, length-append}
use Rattle.std.specs.Global.{Vec}
use Rattle.commit_walk.proofs.ParentPlaces.{one_row}
use Rattle.commit_walk.proofs.parents.parent_places.Goals as goal

pub loop-place-preserved : goal.loop-place-preserved
loop-place-preserved g c = record {
  size = ap length c.in_ok-push.ensures.items
      ∙ length-append _ _
      ∙ ap (λ (n : ℕ). n + 1) c.loop-place.invariant.size;
  places = λ good.
      let lt = c.loop-place-test.true in
      let count = c.len-count.ensures in
      ap (map (λ (row : Vec ℕ). row.items)) c.in_ok-push.ensures.items
      ∙ one_row c.args.objects.now c.loop-place.rows.items c.loop-place.place c.in_ok-row.row (omega (arith, lt, count))
      (c.loop-place.invariant.places good) (c.in_ok-row.ensures good);
}

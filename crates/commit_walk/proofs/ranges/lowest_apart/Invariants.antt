use Rattle.std.proofs.Common.{◌≤◌, take}
use Rattle.commit_walk.proofs.RangeWalks.{IsLowestOf}
use Rattle.commit_walk.proofs.ranges.lowest_apart.Given as goal

abbrev pub invariant-loop-id : goal.invariant-loop-id
invariant-loop-id g l = record {
  below : l.lowest ≤ l.fn.low;
  lowest : IsLowestOf l.objects l.fn.symmetric l.lowest l.left l.right (take l.id-index l.ids);
}

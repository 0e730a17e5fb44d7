use Rattle.std.proofs.Common.{◌≡◌, ◌≤◌, length}
use Rattle.git_model.specs.HeldObjects.{AreHeld}
use Rattle.commit_walk.proofs.RangeWalks.{AreSides}
use Rattle.commit_walk.proofs.ranges.keys_apart.Given as goal

abbrev pub invariant-loop-low : goal.invariant-loop-low
invariant-loop-low g l = record {
  within : l.place ≤ length l.objects;
  left_size : length l.left_flags ≡ length l.objects;
  right_size : length l.right_flags ≡ length l.objects;
  sides : AreHeld g.N.Naming.digest_of l.objects
      → AreSides l.objects l.fn.symmetric l.left l.right l.place l.low l.left_flags l.right_flags l.keys.items;
}

abbrev pub decreases-loop-low : goal.decreases-loop-low
decreases-loop-low g l = l.place

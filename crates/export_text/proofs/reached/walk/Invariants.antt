use Rattle.std.proofs.Common.{◌≡◌, ◌≤◌, length}
use Rattle.git_model.specs.HeldObjects.{AreHeld}
use Rattle.export_text.proofs.Reaching.{walked}
use Rattle.export_text.proofs.reached.walk.Given as goal

abbrev pub invariant-loop-place : goal.invariant-loop-place
invariant-loop-place g l = record {
  within : l.place ≤ length l.objects;
  size : length l.flags ≡ length l.objects;
  walks : AreHeld g.N.Naming.digest_of l.objects
      → walked l.objects l.place l.flags ≡ walked l.objects (length l.objects) l.initial.flags;
}

abbrev pub decreases-loop-place : goal.decreases-loop-place
decreases-loop-place g l = l.place

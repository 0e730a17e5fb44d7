use Rattle.std.proofs.Common.{◌+◌, ◌-◌, ◌≤◌}
use Rattle.git_model.specs.References.{object_at}
use Rattle.git_model.specs.HeldObjects.{AreHeld}
use Rattle.commit_walk.proofs.Walks.{IsWalk}
use Rattle.commit_walk.proofs.reach.walk.Given as goal

abbrev pub invariant-loop-place : goal.invariant-loop-place
invariant-loop-place g l = record {
  above : l.floor ≤ l.place;
  within : l.place ≤ l.top;
  walked : AreHeld g.N.Naming.digest_of l.objects
      → IsWalk l.objects (object_at l.top l.objects).id l.floor (l.place + 1 - l.floor) l.flags;
}

abbrev pub decreases-loop-place : goal.decreases-loop-place
decreases-loop-place g l = l.place

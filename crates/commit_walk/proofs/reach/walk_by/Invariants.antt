use Rattle.std.proofs.Common.{◌+◌, ◌-◌, ◌≤◌, ℕ, List}
use Rattle.git_model.specs.Repository.{Object}
use Rattle.git_model.specs.References.{object_at}
use Rattle.git_model.specs.HeldObjects.{AreHeld}
use Rattle.commit_walk.specs.Remembered.{AreParentPlaces}
use Rattle.commit_walk.proofs.Walks.{IsWalk}
use Rattle.commit_walk.proofs.reach.walk_by.Given as goal

abbrev pub invariant-loop-place : goal.invariant-loop-place
invariant-loop-place l = record {
  above : l.floor ≤ l.place;
  within : l.place ≤ l.top;
  walked : (digest : List ℕ → List ℕ) (os : List Object) → AreHeld digest os
      → AreParentPlaces os l.parents
      → IsWalk os (object_at l.top os).id l.floor (l.place + 1 - l.floor) l.flags;
}

abbrev pub decreases-loop-place : goal.decreases-loop-place
decreases-loop-place l = l.place

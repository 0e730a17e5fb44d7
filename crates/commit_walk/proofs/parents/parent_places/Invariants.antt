use Rattle.std.proofs.Common.{◌≡◌, length, map, take}
use Rattle.git_model.specs.HeldObjects.{AreHeld}
use Rattle.commit_walk.specs.Remembered.{parent_places}
use Rattle.commit_walk.proofs.parents.parent_places.Given as goal

abbrev pub invariant-loop-place : goal.invariant-loop-place
invariant-loop-place g l = record {
  size : length l.rows.items ≡ l.place;
  places : AreHeld g.N.Naming.digest_of l.objects → map (λ row. row.items) l.rows.items
      ≡ map (λ o. parent_places l.objects o.id) (take l.place l.objects);
}

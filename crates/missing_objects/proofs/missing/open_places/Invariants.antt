use Rattle.std.proofs.Common.{◌≡◌, []}
use Rattle.missing_objects.specs.Marks.{open_places}
use Rattle.missing_objects.proofs.missing.open_places.Given as goal

abbrev pub invariant-loop-place : goal.invariant-loop-place
invariant-loop-place l =
    open_places l.marks l.low ≡ [] → l.places.items ≡ open_places l.marks l.place

use Rattle.std.proofs.Common.{◌≡◌, take, filter_map, slice_get}
use Rattle.std.specs.Option.{option_map}
use Rattle.pack_objects.specs.Missing.{told_of}
use Rattle.pack_objects.proofs.told.told_at.Given as goal

abbrev pub invariant-loop-place : goal.invariant-loop-place
invariant-loop-place g l =
    l.told.items ≡ filter_map (λ place. option_map told_of (slice_get l.objects place)) (take l.place-index l.places)

use Rattle.std.proofs.Common.{◌≡◌, map, take}
use Rattle.git_model.specs.References.{place_of}
use Rattle.commit_walk.proofs.parents.places_at.Given as goal

abbrev pub invariant-loop-id : goal.invariant-loop-id
invariant-loop-id g l =
    l.places.items ≡ map (λ id. place_of id l.objects) (take l.id-index l.id-items)

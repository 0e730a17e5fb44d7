use Rattle.std.proofs.Common.{◌≡◌, ◌+◌, ◌≤◌, ℕ, List, length, map, take}
use Rattle.git_model.specs.Repository.{Object}
use Rattle.git_model.specs.References.{place_of}
use Rattle.commit_walk.specs.Marks.{Marks}
use Rattle.commit_walk.proofs.marks.mark_places.Given as goal

abbrev pub invariant-loop-place : goal.invariant-loop-place
invariant-loop-place l = (os : List Object) (ids : List (List ℕ))
    → l.floor + length l.fn.flags ≤ length os → l.places ≡ map (λ id. place_of id os) ids
    → Marks os l.floor l.fn.flags l.flags (take l.place-index ids)

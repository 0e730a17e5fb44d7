-- The objects that a copy has so far, by their places, for private contracts.
use Rattle.std.specs.Prelude.{◌≡◌, ℕ, ◌<◌, false, nat_eq, List, length, get_or, All}
use Rattle.std.specs.List.{IsDistinct, list_any}
use Rattle.git_model.specs.Repository.{Object, Repository}
use Rattle.export_laws.specs.Order.{copied_objects, objects_at, with_named}
use Rattle.repository_copies.specs.declared.found.Found.{Found}

-- The objects at the places so far.
abbrev pub found_objects : List Object → Found → List Object
found_objects os found = objects_at os found.places.items

-- Each place is that of an object and stands there once, and a flag of each object says whether its
-- place is there.
pub record AreFound (os : List Object) (found : Found) : Type 0 where
  pub within : All (λ p. p < length os) found.places.items
  pub once : IsDistinct nat_eq found.places.items
  pub size : length found.there.items ≡ length os
  pub flags : (place : ℕ) → place < length os
      → get_or found.there.items place false ≡ list_any (nat_eq place) found.places.items

-- The objects of these names came to those before, each unless it was there.
pub record Adds (os : List Object) (names : List (List ℕ)) (before after : Found) : Type 0 where
  pub found : AreFound os after
  pub objects : found_objects os after ≡ with_named os names (found_objects os before)

-- All objects of a copy are there, in its order.
pub record HasCopied (repository : Repository) (found : Found) : Type 0 where
  pub places : AreFound repository.objects found
  pub objects : found_objects repository.objects found ≡ copied_objects repository

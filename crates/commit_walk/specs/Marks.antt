-- Marks of objects by their positions, and when they are what a commit reaches.
use Rattle.std.specs.Prelude.{◌≡◌, ◌⊎◌, ℕ, ◌+◌, ◌-◌, ◌<◌, ◌≤◌, ◌&&◌, nat_le, Bool, true, false, IsTrue, List, length, All, slice_index_or}
use Rattle.std.specs.List.{Contains}
use Rattle.git_model.specs.Repository.{Object}
use Rattle.git_model.specs.References.{place_of, object_at, parents_of}
use Rattle.git_model.specs.Reach.{Reaches}

-- There is a flag for each position from `floor` on.
abbrev pub is_marked : ℕ → List Bool → ℕ → Bool
is_marked floor flags place = nat_le floor place && slice_index_or flags (place - floor) false

-- The object of this name is marked, if there is one and its position has a flag.
abbrev pub IsMarkedName : List Object → ℕ → List Bool → List ℕ → Type 0
IsMarkedName os floor flags id = floor ≤ place_of id os → place_of id os < length os
    → place_of id os < floor + length flags
    → IsTrue (is_marked floor flags (place_of id os))

-- A position is that of one of these names.
pub record IsPlaceOfOne (os : List Object) (ids : List (List ℕ)) (place : ℕ) : Type 0 where
  pub id : List ℕ
  pub among : Contains ids id
  pub place_is : place_of id os ≡ place
  pub within : place < length os

-- The objects of these names are marked, and those that were marked before, and no others.
pub record Marks (os : List Object) (floor : ℕ) (old new : List Bool)
    (ids : List (List ℕ)) : Type 0 where
  pub size : length new ≡ length old
  pub kept : (p : ℕ) → IsTrue (is_marked floor old p) → IsTrue (is_marked floor new p)
  pub added : (p : ℕ) → IsTrue (is_marked floor new p)
      → IsTrue (is_marked floor old p) ⊎ IsPlaceOfOne os ids p
  pub all : All (IsMarkedName os floor new) ids

-- The same if a condition holds, and else the marks stay as they were.
abbrev pub MarksIf : Bool → List Object → List Bool → List Bool → List (List ℕ) → Type 0
MarksIf true os old new ids = Marks os 0 old new ids
MarksIf false os old new ids = new ≡ old

-- The marks are those of what a commit reaches, at the position `floor` and after it.
pub record IsReached (os : List Object) (tip : List ℕ) (floor : ℕ)
    (flags : List Bool) : Type 0 where
  pub only : (p : ℕ) → IsTrue (is_marked floor flags p)
      → Reaches (parents_of os) tip (object_at p os).id
  pub every : (id : List ℕ) → floor ≤ place_of id os → Reaches (parents_of os) tip id
      → IsTrue (is_marked floor flags (place_of id os))

-- What is remembered of walks over one list of objects.
use Rattle.std.specs.Prelude.{◌≡◌, ℕ, ◌≤◌, Bool, List, length, map, Option, IfSome}
use Rattle.std.specs.Global.{Vec}
use Rattle.git_model.specs.Repository.{Object}
use Rattle.git_model.specs.References.{place_of, object_at, parents_of}
use Rattle.commit_walk.specs.declared.ancestry.DoneWalk.{DoneWalk}
use Rattle.commit_walk.specs.Marks.{is_marked, IsReached}

-- The positions of the parents of an object.
abbrev pub parent_places : List Object → List ℕ → List ℕ
parent_places os id = map (λ parent. place_of parent os) (parents_of os id)

-- The same of each object, the oldest first.
abbrev pub AreParentPlaces : List Object → List (Vec ℕ) → Type 0
AreParentPlaces os rows = map (λ row. row.items) rows ≡ map (λ o. parent_places os o.id) os

-- If the positions of parents are kept, there are some for each object.
abbrev pub HaveParents : List Object → Option (Vec (Vec ℕ)) → Type 0
HaveParents os parents = IfSome parents (λ rows. length rows.items ≡ length os)

-- A walk marked what the commit at its top reaches.
abbrev pub IsDoneWalk : List Object → DoneWalk → Type 0
IsDoneWalk os walk = IsReached os (object_at walk.top os).id walk.floor walk.flags.items

-- The last walk and the positions of the parents, if they are kept, are right.
pub record Remembers (os : List Object) (last : Option DoneWalk)
    (parents : Option (Vec (Vec ℕ))) : Type 0 where
  pub walk : IfSome last (IsDoneWalk os)
  pub places : IfSome parents (λ rows. AreParentPlaces os rows.items)

-- By the marks of a walk from the commit at `top`, it reaches the one at `place`, or does not.
pub record Tells (os : List Object) (top place : ℕ) (yes : Bool) : Type 0 where
  pub floor : ℕ
  pub flags : List Bool
  pub above : floor ≤ place
  pub reached : IsReached os (object_at top os).id floor flags
  pub told : is_marked floor flags place ≡ yes

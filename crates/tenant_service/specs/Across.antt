-- A table over one pool of objects that a table over another pool has.
use Rattle.std.specs.Prelude.{◌≡◌, ℕ, ◌<◌, List, [], length, take}
use Rattle.content_pool.specs.Pool.{Cells}
use Rattle.tenant_tables.specs.IsBackedBy.{IsBackedBy, PreservesOthers}
use Rattle.tenant_tables.specs.Objects.{objects}
use Rattle.tenant_tables.specs.Room.{HasHoldsLeftBeside}
use Rattle.tenant_tables.specs.View.{Entries, View, summary_of}

-- A table has the first objects of the other one, and of each the summary that it has there.
pub record HasFirst (from : Cells) (entries : Entries) (count : ℕ) (pool : Cells) (made : Entries)
    : Type 0 where
  pub objects : objects pool made ≡ take count (objects from entries)
  pub summaries : (id : List ℕ) → summary_of id made ≡ summary_of id (take count entries)

-- The object at a place may be added, after those before it.
pub record MayAdd (digest : List ℕ → List ℕ) (from : Cells) (entries : Entries) (place : ℕ)
    (pool : Cells) (made : Entries) : Type 0 where
  pub source : IsBackedBy digest from entries
  pub within : place < length entries
  pub stands : IsBackedBy digest pool made
  pub room : HasHoldsLeftBeside pool made
  pub first : HasFirst from entries place pool made

-- A new table has the first objects of the other one, all committed. It stands beside all others.
pub record IsAcross (digest : List ℕ → List ℕ) (from : Cells) (entries : Entries) (count : ℕ)
    (before after : Cells) (new : View) : Type 0 where
  pub stands : IsBackedBy digest after new.entries
  pub others : PreservesOthers before [] after new.entries
  pub objects : objects after new.entries ≡ take count (objects from entries)
  pub committed : new.committed ≡ length new.entries

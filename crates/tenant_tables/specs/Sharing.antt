-- Tables that begin with the same objects.
use Rattle.std.specs.Prelude.{◌≡◌, ℕ, ◌+◌, List, [], take}
use Rattle.content_pool.specs.Pool.{Cells, content, holds}
use Rattle.tenant_tables.specs.Objects.{objects}
use Rattle.tenant_tables.specs.View.{View, Entries, held}
use Rattle.tenant_tables.specs.IsBackedBy.{IsBackedBy, PreservesOthers}

-- The pool holds the content of each entry once more, and nothing else has changed.
pub record HoldsMore (before : Cells) (entries : Entries) (after : Cells) : Type 0 where
  pub counts : (s : ℕ) → holds after s ≡ holds before s + held entries s
  pub contents : (s : ℕ) → content after s ≡ content before s

-- A new table has the first entries of another one, all committed. It stands beside all others.
pub record Shares (digest : List ℕ → List ℕ) (count : ℕ) (entries : Entries) (before after : Cells)
    (new : View) : Type 0 where
  pub table : new ≡ record { entries = take count entries; committed = count }
  pub stands : IsBackedBy digest after new.entries
  pub others : PreservesOthers before [] after new.entries
  pub objects : objects after new.entries ≡ take count (objects before entries)

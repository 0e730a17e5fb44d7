-- A table of objects that another table has.
use Rattle.std.specs.Prelude.{◌≡◌, ℕ, List, [], length, map}
use Rattle.content_pool.specs.Pool.{Cells}
use Rattle.git_model.specs.References.{object_at}
use Rattle.git_model.specs.Repository.{Object}
use Rattle.tenant_tables.specs.IsBackedBy.{IsBackedBy, PreservesOthers}
use Rattle.tenant_tables.specs.Objects.{objects}
use Rattle.tenant_tables.specs.View.{Entries, View}

-- Objects by their places among others.
abbrev pub objects_at : List Object → List ℕ → List Object
objects_at os places = map (λ place. object_at place os) places

-- A new table has the objects at these places of the other one, all committed. It stands beside all
-- others.
pub record IsCopied (digest : List ℕ → List ℕ) (places : List ℕ) (entries : Entries)
    (before after : Cells) (new : View) : Type 0 where
  pub stands : IsBackedBy digest after new.entries
  pub others : PreservesOthers before [] after new.entries
  pub objects : objects after new.entries ≡ objects_at (objects before entries) places
  pub committed : new.committed ≡ length new.entries

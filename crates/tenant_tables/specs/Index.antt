-- The ordered index of the names of a table.
use Rattle.std.specs.Prelude.{ℕ, ◌≤◌, ◌++◌, take, drop, length, All, IsPermutation}
use Rattle.std.specs.List.{IsDistinct}
use Rattle.std.specs.Str.{bytes_eq}
use Rattle.git_model.specs.Limits.{objects_limit}
use Rattle.git_model.specs.ObjectName.{IsObjectName}
use Rattle.name_index.specs.Index.{View}
use Rattle.tenant_tables.specs.View.{Entries, names}

-- Entries have distinct names, and the index has exactly these: the committed ones, and the others.
pub record IsIndexed (entries : Entries) (index : View) (committed : ℕ) : Type 0 where
  pub within : committed ≤ length entries
  pub named : All IsObjectName (names entries)
  pub distinct : IsDistinct bytes_eq (names entries)
  pub first : IsPermutation index.committed (names (take committed entries))
  pub after : IsPermutation index.added (names (drop committed entries))

-- The shared entries of a table are committed. With its own entries they have distinct names, and
-- are no more than a table may have.
pub record IsTable (front own : Entries) (committed : ℕ) : Type 0 where
  pub shared : length front ≤ committed
  pub within : committed ≤ length (front ++ own)
  pub limited : length (front ++ own) ≤ objects_limit
  pub distinct : IsDistinct bytes_eq (names (front ++ own))

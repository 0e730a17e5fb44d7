-- The table as a plain list of entries.
use Rattle.std.specs.Prelude.{ℕ, ◌≤◌, length, All}
use Rattle.std.specs.List.{IsDistinct}
use Rattle.std.specs.Str.{bytes_eq}
use Rattle.git_model.specs.Limits.{objects_limit}
use Rattle.git_model.specs.ObjectName.{IsObjectName}
use Rattle.tenant_tables.specs.View.{Entries, names}

-- The entries have distinct names, are no more than a table may have, and are no fewer than the
-- committed ones.
pub record IsList (entries : Entries) (committed : ℕ) : Type 0 where
  pub within : committed ≤ length entries
  pub limited : length entries ≤ objects_limit
  pub named : All IsObjectName (names entries)
  pub distinct : IsDistinct bytes_eq (names entries)

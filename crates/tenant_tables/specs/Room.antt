-- Room in the pool for the holds of a table.
use Rattle.std.specs.Prelude.{ℕ, ◌+◌, ◌-◌, ◌<◌, ◌^◌}
use Rattle.content_pool.specs.Pool.{Cells, holds}
use Rattle.tenant_tables.specs.View.{Entries, held}

-- The others hold each content fewer than 2^64 - 2 times, so this table can hold it once.
abbrev pub HasHoldsLeftBeside : Cells → Entries → Type 0
HasHoldsLeftBeside pool entries = (s : ℕ) → holds pool s < held entries s + (2 ^ 64 - 2)

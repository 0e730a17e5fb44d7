-- What a call borrows: the pool that all share, and the table of one tenant over it.
use Rattle.std.specs.Prelude.{◌≡◌, ℕ, List}
use Rattle.content_pool.specs.Pool.{Cells}
use Rattle.tenant_tables.specs.View.{View}
use Rattle.tenant_tables.specs.IsBackedBy.{IsBackedBy, PreservesOthers}

-- What holds after a call that changed the table from `old` to `new` and the pool from `before` to
-- `after`: the pool backs the table, and everyone else keeps the contents that they hold.
pub record Keeps (digest : List ℕ → List ℕ) (before : Cells) (old : View) (after : Cells)
    (new : View) : Type 0 where
  pub stands : IsBackedBy digest after new.entries
  pub others : PreservesOthers before old.entries after new.entries

-- What a call leaves that failed before it changed anything.
pub record IsUnchanged (before : Cells) (old : View) (after : Cells) (new : View) : Type 0 where
  pub pool : after ≡ before
  pub table : new ≡ old

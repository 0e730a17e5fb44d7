-- That the pool has room for a table, before and after its calls: for callers.
use Rattle.std.proofs.Common.{ℕ, List, arith}
use Rattle.content_pool.specs.Pool.{Cells, HasHoldsLeft, IsVacant}
use Rattle.tenant_tables.specs.View.{Entries}
use Rattle.tenant_tables.specs.IsBackedBy.{IsBackedBy, PreservesOthers}
use Rattle.tenant_tables.specs.Room.{HasHoldsLeftBeside}

-- a table that stands in the pool may take one hold more of any slot
pub has_room : (digest : List ℕ → List ℕ) (p : Cells) (es : Entries) → IsBackedBy digest p es
    → HasHoldsLeftBeside p es → HasHoldsLeft p
has_room digest p es stands room s = let a = room s in let b = stands.once s in omega arith

-- what leaves others alone leaves this room
pub room-after : (p q : Cells) (es fs : Entries) → PreservesOthers p es q fs → HasHoldsLeftBeside p es
    → HasHoldsLeftBeside q fs
room-after p q es fs others room s = let a = room s in let b = others.rest s in omega arith

-- in a pool that holds nothing there is room
pub room-none : (p : Cells) (es : Entries) → IsVacant p → HasHoldsLeftBeside p es
room-none p es vacant s = let none = vacant s in omega arith

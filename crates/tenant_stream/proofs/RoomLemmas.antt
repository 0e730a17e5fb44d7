-- How often slots are held while one table takes and gives up holds.
use Rattle.std.proofs.Common.{◌≡◌, ℕ, ◌≤◌, List, length, take, min, sym, ap, ◌∙◌, arith}
use Rattle.std.proofs.lemmas.List.{length-take}
use Rattle.content_pool.specs.Pool.{Cells}
use Rattle.tenant_tables.specs.Room.{HasHoldsLeftBeside}
use Rattle.tenant_tables.specs.View.{View, Entries}
use Rattle.tenant_tables.specs.Objects.{objects}
use Rattle.tenant_tables.proofs.RoomLemmas.{room-after}
use Rattle.tenant_tables.proofs.TableLemmas.{length-objects}
use Rattle.stream_commands.specs.Lent.{Keeps}
use Rattle.tenant_stream.specs.Carrying.{HasAmpleHoldsLeft, IsCommitted}

-- what is held far less often than it can be leaves room beside any table
pub room_beside : (p : Cells) (entries : Entries) → HasAmpleHoldsLeft p → HasHoldsLeftBeside p entries
room_beside p entries ample s = let a = ample s in omega (arith, a)

-- and room is left, however often one table is called
pub room_left : (digest : List ℕ → List ℕ) (p : Cells) (t : View) (q : Cells) (u : View)
    → HasAmpleHoldsLeft p → Keeps digest p t q u → HasHoldsLeftBeside q u.entries
room_left digest p t q u ample keeps =
    room-after p q t.entries u.entries keeps.others (room_beside p t.entries ample)

-- a table that was rolled back to its committed objects has no others
pub all_committed : (p q : Cells) (old new : View) → old.committed ≤ length old.entries
    → new.committed ≡ old.committed
    → objects q new.entries ≡ take old.committed (objects p old.entries) → IsCommitted new
all_committed p q old new within same left =
    let n : length new.entries ≡ length (take old.committed (objects p old.entries)) =
    sym (length-objects q new.entries) ∙ ap length left in
    let m : length (take old.committed (objects p old.entries)) ≡ min old.committed
    (length (objects p old.entries)) =
    length-take old.committed (objects p old.entries) in
    let k = length-objects p old.entries in
    omega (arith, n, m, k, within, same)

-- An index of a tenant's objects under their names.
use Rattle.std.specs.Prelude.{◌≡◌, ℕ, List, [], ◌∷◌, ◌++◌, length, take, Result, Ok, Err, IsSome}
use Rattle.std.specs.Map.{lookup}
use Rattle.std.specs.Str.{bytes_eq}
use Rattle.pool_file_format.specs.declared.refusal.Refusal.TheVariants as refusal
use Rattle.pool_file_format.specs.declared.fault.Fault.{Fault}
use Rattle.pool_file_format.specs.declared.fault.Fault.TheVariants as fault
use Rattle.pool_file_checks.specs.Own.{Rows, rows_of, AreDistinct}

-- A row was added at the end, under a new name. Or it was refused: the name was there.
abbrev pub AddsRow : Rows → List ℕ → ℕ → Result Unit Fault → Rows → Type 0
AddsRow old id n (Ok u) new = (new ≡ old ++ (id, n) ∷ []) × AreDistinct new
AddsRow old id n (Err (fault.Refused r)) new = IsSome (lookup (bytes_eq id) old)
    × (r ≡ refusal.NotCanonical)
AddsRow old id n (Err fault.Memory) new = Unit {0}
AddsRow old id n (Err fault.Device) new = ⊥

-- The index has the rows of the first numbers, under distinct names.
abbrev pub IsIndexed : List (List ℕ) → List ℕ → Rows → Type 0
IsIndexed names numbers rows =
    (rows ≡ rows_of names (take (length rows) numbers)) × AreDistinct rows

-- The index has these rows, and their names are distinct. Or it was refused: they are not.
abbrev pub Indexes : Rows → Result Rows Fault → Type 0
Indexes rows (Ok index) = (index ≡ rows) × AreDistinct rows
Indexes rows (Err (fault.Refused r)) = (AreDistinct rows → ⊥) × (r ≡ refusal.NotCanonical)
Indexes rows (Err fault.Memory) = Unit {0}
Indexes rows (Err fault.Device) = ⊥

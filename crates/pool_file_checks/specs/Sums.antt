-- The sizes of a tenant's trees: how many files, how deep, how long a path. The limits are this
-- service's own.
use Rattle.std.specs.Prelude.{◌≡◌, ℕ, List, Option, None, Some, Result, Ok, Err}
use Rattle.std.specs.Map.{lookup}
use Rattle.std.specs.Str.{bytes_eq}
use Rattle.git_model.specs.declared.kind.Kind.{Kind}
use Rattle.git_model.specs.Tree.{TreeEntry}
use Rattle.tenant_tables.specs.declared.summary.Summary.{Summary}
pub use Rattle.tenant_tables.specs.Sums.{Sums, sum_of_entry, sum_of_tree, HasFiles, IsWithin, FitsAfter, Fits, sums_with, TreesFit}
use Rattle.pool_file_format.specs.declared.refusal.Refusal.TheVariants as refusal
use Rattle.pool_file_format.specs.declared.fault.Fault.{Fault}
use Rattle.pool_file_format.specs.declared.fault.Fault.TheVariants as fault

-- The sum if `P` holds, and `None` if it does not.
abbrev pub SumWhere : Type 0 → Summary → Option Summary → Type 0
SumWhere P sum None = P → ⊥
SumWhere P sum (Some found) = P × (found ≡ sum)

-- The sum that an entry adds has files and is within the limits.
abbrev pub EntryFits : Sums → TreeEntry → Type 0
EntryFits sums e = HasFiles sums e × IsWithin (sum_of_entry sums e)

-- Both have the same sum under each name.
abbrev pub SameSums : Sums → Sums → Type 0
SameSums a b = (id : List ℕ) → lookup (bytes_eq id) a ≡ lookup (bytes_eq id) b

-- The object fits, and its sum was noted if it is a tree. Or it was refused: it does not fit.
abbrev pub AddsSum : Kind → List ℕ → List ℕ → Sums → Result Unit Fault → Sums → Type 0
AddsSum kind id bytes old (Ok u) new =
    Fits kind bytes old × SameSums new (sums_with kind id bytes old)
AddsSum kind id bytes old (Err (fault.Refused r)) new =
    (Fits kind bytes old → ⊥) × (r ≡ refusal.BadObject)
AddsSum kind id bytes old (Err fault.Memory) new = Unit {0}
AddsSum kind id bytes old (Err fault.Device) new = ⊥

-- A backup of one tenant: a pool file that has this tenant alone, as it is at its last checkpoint.
use Rattle.std.specs.Prelude.{◌≡◌, ℕ, not, if◌then◌else◌, List, filter, is_some, Option, None, Some, Result, Ok, Err}
use Rattle.std.specs.Str.{bytes_eq}
use Rattle.byte_devices.specs.Device.{Device}
use Rattle.tenant_refs.specs.TenantName.{is_tenant_name}
use Rattle.pool_file_format.specs.declared.fault.Fault.TheVariants as file
use Rattle.pool_file.specs.Saves.{Saves}
use Rattle.tenant_service.specs.declared.extract_fault.ExtractFault.{ExtractFault}
use Rattle.tenant_service.specs.declared.extract_fault.ExtractFault.TheVariants as fault
use Rattle.tenant_service.specs.TenantState.{TenantStates, held_of}
use Rattle.tenant_service.specs.Removing.{with_stream}

-- The numbers of the faults.
abbrev pub code_of : ExtractFault → ℕ
code_of fault.StreamIsOpen = 31
code_of fault.BadTenantName = 32
code_of fault.Device = 68
code_of fault.Memory = 90

-- The tenant of this name alone, of all.
abbrev pub only : List ℕ → TenantStates → TenantStates
only tenant all = filter (λ e. bytes_eq tenant e.0) all

-- Why a tenant is not extracted: its name is bad, or it has a stream, running or dead.
abbrev pub extract_refusal : List ℕ → TenantStates → Option ExtractFault
extract_refusal tenant all =
    if not (is_tenant_name tenant) then Some fault.BadTenantName
    else if is_some (with_stream (held_of tenant all)) then Some fault.StreamIsOpen
    else None

-- A file is written, as a save writes it.
abbrev pub Writes : Device → Result Unit ExtractFault → Device → List ℕ → Type 0
Writes old (Ok u) new text = Saves old (Ok u) new text
Writes old (Err fault.Device) new text = Saves old (Err file.Device) new text
Writes old (Err fault.Memory) new text = Saves old (Err file.Memory) new text
Writes old (Err fault.StreamIsOpen) new text = ⊥
Writes old (Err fault.BadTenantName) new text = ⊥

-- A tenant that is refused leaves the writer as it was. Of every other tenant a file is written.
abbrev pub Extracts : Option ExtractFault → Device → Result Unit ExtractFault → Device → List ℕ
    → Type 0
Extracts (Some refusal) old r new text = (r ≡ Err refusal) × (new ≡ old)
Extracts None old r new text = Writes old r new text

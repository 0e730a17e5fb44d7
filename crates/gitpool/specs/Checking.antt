-- What a service stores, as one line to a writer.
use Rattle.std.specs.Prelude.{◌≡◌, ℕ, List, ◌++◌, count_by, codes, decimal, Result, Ok, Err}
use Rattle.std.specs.Io.KnownBytes.{Appends}
use Rattle.git_objects.specs.Device.{Device, HasFault, IsWell, AppendsFront}
use Rattle.content_pool.specs.LiveContents.{stored_sizes}
use Rattle.tenant_service.specs.HeldObjects.{held_contents, has_committed_object}
use Rattle.tenant_service.specs.TenantState.{TenantStates}
use Rattle.byte_devices.specs.declared.write_fault.WriteFault.{WriteFault}
use Rattle.byte_devices.specs.declared.write_fault.WriteFault.TheVariants as fault

-- The line of three numbers: how many distinct contents there are, the sum of their sizes in bytes,
-- and how many tenants have an object.
abbrev pub check_text : ℕ × ℕ → ℕ → List ℕ
check_text stored tenants = codes "objects " ++ decimal stored.0 ++ codes " bytes "
    ++ decimal stored.1 ++ codes " tenants " ++ decimal tenants ++ codes "\n"

-- The line of a service.
abbrev pub stored_text : TenantStates → List ℕ
stored_text all =
    check_text (stored_sizes (held_contents all)) (count_by (λ e. has_committed_object e.1) all)

-- What a check did, by its answer. Exactly this line was written, or a prefix of it if a write
-- failed. If memory ran out, nothing was written.
abbrev pub Checks : TenantStates → Device → Device → Result Unit WriteFault → Type 0
Checks all writer writer' (Ok u) =
    Appends writer.known writer'.known (stored_text all) × IsWell writer writer'
Checks all writer writer' (Err fault.Device) =
    AppendsFront writer.known writer'.known (stored_text all)
    × HasFault writer.faults writer'.faults
Checks all writer writer' (Err fault.Memory) = writer' ≡ writer

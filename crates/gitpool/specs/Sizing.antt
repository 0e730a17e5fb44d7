-- What each tenant has, as lines to a writer.
use Rattle.std.specs.Prelude.{◌≡◌, ℕ, List, ◌++◌, codes, decimal, Result, Ok, Err}
use Rattle.std.specs.List.{flat_map}
use Rattle.std.specs.Io.KnownBytes.{Appends}
use Rattle.git_objects.specs.Device.{Device, HasFault, IsWell, AppendsFront}
use Rattle.tenant_service.specs.Sizes.{Sizes, sizes_of}
use Rattle.tenant_service.specs.TenantState.{TenantStates}
use Rattle.byte_devices.specs.declared.write_fault.WriteFault.{WriteFault}
use Rattle.byte_devices.specs.declared.write_fault.WriteFault.TheVariants as fault

-- What a line says after the name of the tenant.
abbrev pub numbers_text : Sizes → List ℕ
numbers_text sizes = codes " objects " ++ decimal sizes.objects ++ codes " bytes "
    ++ decimal sizes.bytes ++ codes " own " ++ decimal sizes.own_bytes ++ codes " refs "
    ++ decimal sizes.refs ++ codes "\n"

-- The line of a tenant: its name and its four numbers.
abbrev pub line_of : Sizes → List ℕ
line_of sizes = sizes.tenant ++ numbers_text sizes

-- The lines of a service: one for each tenant that a save writes, in the order of their names.
abbrev pub sizes_text : TenantStates → List ℕ
sizes_text all = flat_map line_of (sizes_of all)

-- What was written, by the answer: exactly these lines, or a prefix of them if a write failed. If
-- memory ran out, nothing was written.
abbrev pub WritesSizes : TenantStates → Device → Device → Result Unit WriteFault → Type 0
WritesSizes all writer writer' (Ok u) =
    Appends writer.known writer'.known (sizes_text all) × IsWell writer writer'
WritesSizes all writer writer' (Err fault.Device) =
    AppendsFront writer.known writer'.known (sizes_text all)
    × HasFault writer.faults writer'.faults
WritesSizes all writer writer' (Err fault.Memory) = writer' ≡ writer

-- The numbers of the faults of a call that writes, and which of them an error of the system is.
use Rattle.std.specs.Prelude.{ℕ}
use Rattle.std.specs.declared.io.ErrorKind.{ErrorKind}
use Rattle.std.specs.declared.io.ErrorKind.TheVariants as error_kind
use Rattle.byte_devices.specs.declared.write_fault.WriteFault.{WriteFault}
use Rattle.byte_devices.specs.declared.write_fault.WriteFault.TheVariants as fault

-- The number of a fault.
abbrev pub code_of : WriteFault → ℕ
code_of fault.Device = 68
code_of fault.Memory = 90

-- The fault of a call of the system that answers an error of this kind.
abbrev pub fault_of : ErrorKind → WriteFault
fault_of error_kind.OutOfMemory = fault.Memory
fault_of _ = fault.Device

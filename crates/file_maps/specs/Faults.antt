-- The numbers of faults.
use Rattle.std.specs.Prelude.{ℕ}
use Rattle.file_maps.specs.declared.fault.Fault.{Fault}
use Rattle.file_maps.specs.declared.fault.Fault.TheVariants as fault

-- Each fault has its number.
abbrev pub fault_code : Fault → ℕ
fault_code fault.ObjectUnknown = 14
fault_code fault.WrongKind = 15
fault_code fault.SourceMissing = 18
fault_code fault.RootNotDirectory = 20
fault_code fault.NameCollision = 24
fault_code fault.Limit = 25
fault_code fault.Memory = 90

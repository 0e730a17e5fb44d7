-- Faults: the number of each refusal.
use Rattle.std.specs.Prelude.{ℕ}
use Rattle.missing_objects.specs.declared.fault.MissingFault.{MissingFault}
use Rattle.missing_objects.specs.declared.fault.MissingFault.TheVariants as missing
use Rattle.pack_objects.specs.declared.fault.PackFault.{PackFault}
use Rattle.pack_objects.specs.declared.fault.PackFault.TheVariants as fault

-- The number of a fault.
abbrev pub code_of : PackFault → ℕ
code_of fault.UnknownObject = 16
code_of fault.Limit = 25
code_of fault.BadTenantName = 32
code_of fault.Device = 68
code_of fault.Memory = 90

-- The fault of a question for missing objects.
abbrev pub of_missing : MissingFault → PackFault
of_missing missing.UnknownWant = fault.UnknownObject
of_missing missing.Memory = fault.Memory

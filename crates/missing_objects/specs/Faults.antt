-- Faults: the number of each refusal.
use Rattle.std.specs.Prelude.{ℕ}
use Rattle.missing_objects.specs.declared.fault.MissingFault.{MissingFault}
use Rattle.missing_objects.specs.declared.fault.MissingFault.TheVariants as fault

-- The number of a fault.
abbrev pub code_of : MissingFault → ℕ
code_of fault.UnknownWant = 16
code_of fault.Memory = 90

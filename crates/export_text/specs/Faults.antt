-- Faults: the number of each refusal.
use Rattle.std.specs.Prelude.{ℕ}
use Rattle.export_text.specs.declared.fault.Fault.{Fault}
use Rattle.export_text.specs.declared.fault.Fault.TheVariants as fault

abbrev pub code_of : Fault → ℕ
code_of fault.Limit = 25
code_of fault.Memory = 90

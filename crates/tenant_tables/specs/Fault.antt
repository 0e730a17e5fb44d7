-- The numbers of the faults of a table.
use Rattle.std.specs.Prelude.{ℕ}
use Rattle.tenant_tables.specs.declared.fault.Fault.{Fault}
use Rattle.tenant_tables.specs.declared.fault.Fault.TheVariants as fault

-- The number of a fault.
abbrev pub fault_code : Fault → ℕ
fault_code fault.Limit = 25
fault_code fault.NameCollision = 24
fault_code fault.Memory = 90

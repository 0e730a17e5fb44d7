-- The numbers of a service's own faults.
use Rattle.std.specs.Prelude.{ℕ}
use Rattle.service_steps.specs.declared.fault.ServiceFault.{ServiceFault}
use Rattle.service_steps.specs.declared.fault.ServiceFault.TheVariants as fault

-- The number of a fault.
abbrev pub code_of : ServiceFault → ℕ
code_of fault.NoStream = 30
code_of fault.StreamIsOpen = 31
code_of fault.BadTenantName = 32
code_of fault.TenantNotEmpty = 33

-- The numbers under which faults are reported.
use Rattle.std.specs.Prelude.{ℕ}
use Rattle.tenant_refs.specs.declared.changes.ChangesFault.{ChangesFault}
use Rattle.tenant_refs.specs.declared.changes.ChangesFault.TheVariants as changes
use Rattle.tenant_refs.specs.declared.tenant_name_fault.TenantNameFault.{TenantNameFault}
use Rattle.tenant_refs.specs.declared.tenant_name_fault.TenantNameFault.TheVariants as tenant_name

-- The number of a fault of a tenant name.
abbrev pub tenant_name_code : TenantNameFault → ℕ
tenant_name_code tenant_name.BadTenantName = 32

-- The number of each fault of several changes to refs.
abbrev pub changes_code : ChangesFault → ℕ
changes_code changes.Limit = 25
changes_code changes.Memory = 90

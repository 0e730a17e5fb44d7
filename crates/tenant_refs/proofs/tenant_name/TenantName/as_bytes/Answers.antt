use Rattle.std.proofs.Common.{subst}
use Rattle.tenant_refs.specs.TenantName.{IsTenantName}
use Rattle.tenant_refs.proofs.Names.{is_tenant_name-Decides}
use Rattle.tenant_refs.proofs.tenant_name.TenantName.as_bytes.Goals as goal

pub returns-clause-well_formed : goal.returns-clause-well_formed
returns-clause-well_formed c =
    subst IsTenantName c.self.view_is ((is_tenant_name-Decides _).0 c.self.invariant.1)

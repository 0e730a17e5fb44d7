use Rattle.std.proofs.Common.{subst}
use Rattle.tenant_service.specs.TenantState.{TenantStates}
use Rattle.tenant_service.specs.Tenants.{AreLed}
use Rattle.tenant_service.proofs.service.Service.is_led.Goals as goal

pub returns : goal.returns
returns g c = subst (λ (all : TenantStates). AreLed g.N.Naming.digest_of all) c.self.view_is c.self.invariant.led

use Rattle.std.proofs.Common.{subst}
use Rattle.tenant_service.specs.TenantState.{TenantStates}
use Rattle.tenant_service.specs.Tenants.{AreSound}
use Rattle.tenant_service.proofs.service.Service.is_sound.Goals as goal

pub returns : goal.returns
returns g c = subst (λ (all : TenantStates). AreSound g.N.Naming.digest_of all) c.self.view_is c.self.invariant.sound

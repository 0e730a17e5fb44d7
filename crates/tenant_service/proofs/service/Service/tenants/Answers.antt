use Rattle.std.proofs.Common.{ap, ◌∙◌}
use Rattle.std.specs.Prelude.{count_by}
use Rattle.tenant_service.specs.TenantState.{TenantStates}
use Rattle.tenant_service.specs.HeldObjects.{has_committed_object}
use Rattle.tenant_service.proofs.StoredLemmas.{count-commits}
use Rattle.tenant_service.proofs.service.Service.tenants.Goals as goal

pub returns : goal.returns
returns g c =
    c.count_committed.ensures
    ∙ count-commits g.N.Naming.digest_of c.self.inside.pool c.self.inside.tenants.entries c.self.invariant.accounts.stands
    ∙ ap (λ (all : TenantStates). count_by (λ e. has_committed_object e.1) all) c.self.view_is

use Rattle.std.proofs.Common.{ap, ◌∙◌}
use Rattle.content_pool.specs.LiveContents.{stored_sizes}
use Rattle.tenant_service.specs.TenantState.{TenantStates}
use Rattle.tenant_service.specs.HeldObjects.{held_contents}
use Rattle.tenant_service.specs.Tenants.{holdings}
use Rattle.tenant_service.proofs.StoredLemmas.{lists-live}
use Rattle.tenant_service.proofs.service.Service.stored.Goals as goal

pub returns : goal.returns
returns g c =
    c.stored.ensures.any_list (held_contents (holdings c.self.inside.pool c.self.inside.tenants.entries))
    (lists-live g.N.Naming.digest_of c.self.inside.pool c.self.inside.tenants.entries c.self.invariant.accounts)
    ∙ ap (λ (all : TenantStates). stored_sizes (held_contents all)) c.self.view_is

use Rattle.std.proofs.Common.{ap, sym, ◌∙◌}
use Rattle.tenant_service.specs.TenantState.{TenantStates, held_of}
use Rattle.tenant_service.specs.HeldObjects.{has_read_done}
use Rattle.tenant_service.proofs.AccountLemmas.{bad-missing, held-found}
use Rattle.tenant_service.proofs.StoredLemmas.{unseen-missing}
use Rattle.tenant_service.proofs.service.Service.has_read_done.Goals as goal

pub returns-in_default : goal.returns-in_default
returns-in_default g c =
    sym (ap has_read_done
    (unseen-missing c.self.inside.pool c.args.tenant.now c.self.inside.tenants.entries c.args.self.now
    (bad-missing c.args.tenant.now c.self.inside.tenants.entries c.self.invariant.accounts.names c.in_default.ensures.0) c.self.view_is))

pub returns-in-None : goal.returns-in-None
returns-in-None g c =
    sym (ap has_read_done
    (unseen-missing c.self.inside.pool c.args.tenant.now c.self.inside.tenants.entries c.args.self.now
    (rw c.in-Ok.ensures.1 at (sym c.in-None.ensures.value)) c.self.view_is))

pub returns-in-Some : goal.returns-in-Some
returns-in-Some g c =
    c.has_read_done.ensures c.self.inside.pool
    ∙ ap has_read_done (sym (held-found c.self.inside.pool c.args.tenant.now c.self.inside.tenants.entries c.in-Some.tenant.now
    (rw c.in-Ok.ensures.1 at (sym c.in-Some.ensures.value))))
    ∙ ap (λ (all : TenantStates). has_read_done (held_of c.args.tenant.now all)) c.self.view_is

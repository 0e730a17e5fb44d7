use Rattle.std.proofs.Common.{ap, sym, ◌∙◌}
use Rattle.content_pool.specs.LiveContents.{stored_sizes}
use Rattle.content_pool.proofs.StoredLemmas.{stored_sizes-ListsLive}
use Rattle.tenant_service.specs.TenantState.{TenantStates}
use Rattle.tenant_service.specs.HeldObjects.{held_contents}
use Rattle.tenant_service.specs.Tenants.{holdings}
use Rattle.tenant_service.proofs.AccountLemmas.{bad-missing, stands-found}
use Rattle.tenant_service.proofs.CountLemmas.{counts-tenants}
use Rattle.tenant_service.proofs.StoredLemmas.{lists-live, shows-found, unseen-missing}
use Rattle.tenant_service.proofs.service.Service.view.Goals as goal

pub returns-in_default-clause-unseen : goal.returns-in_default-clause-unseen
returns-in_default-clause-unseen g c = λ _.
    unseen-missing c.self.inside.pool c.args.tenant.now c.self.inside.tenants.entries c.args.self.now
    (bad-missing c.args.tenant.now c.self.inside.tenants.entries c.self.invariant.accounts.names c.in_default.ensures.0) c.self.view_is

pub returns-in_default-get-clause-unseen : goal.returns-in_default-get-clause-unseen
returns-in_default-get-clause-unseen g c = λ _.
    unseen-missing c.self.inside.pool c.args.tenant.now c.self.inside.tenants.entries c.args.self.now
    (rw c.in-Ok.ensures.1 at (sym c.in_default-get.ensures.value)) c.self.view_is

pub returns-clause-shown : goal.returns-clause-shown
returns-clause-shown g c =
    shows-found g.N.Naming.digest_of c.self.inside.pool c.args.tenant.now c.self.inside.tenants.entries c.in-Some.tenant.now c.args.self.now
    c.self.invariant.accounts (rw c.in-Ok.ensures.1 at (sym c.in-Some.ensures.value)) c.self.view_is

pub returns-clause-pool : goal.returns-clause-pool
returns-clause-pool g c =
    stored_sizes-ListsLive c.self.inside.pool (held_contents (holdings c.self.inside.pool c.self.inside.tenants.entries))
    (lists-live g.N.Naming.digest_of c.self.inside.pool c.self.inside.tenants.entries c.self.invariant.accounts)
    ∙ ap (λ (all : TenantStates). stored_sizes (held_contents all)) c.self.view_is

pub returns-clause-stands : goal.returns-clause-stands
returns-clause-stands g c =
    (stands-found g.N.Naming.digest_of c.self.inside.pool c.args.tenant.now c.self.inside.tenants.entries c.in-Some.tenant.now
    c.self.invariant.accounts (rw c.in-Ok.ensures.1 at (sym c.in-Some.ensures.value))).entries

pub returns-clause-counted : goal.returns-clause-counted
returns-clause-counted g c =
    counts-tenants g.N.Naming.digest_of c.self.inside.pool c.self.inside.tenants.entries c.args.self.now
    c.self.invariant.accounts c.self.invariant.sound c.self.view_is c.has_distinct_names.ensures

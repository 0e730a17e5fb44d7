use Rattle.std.proofs.Common.{is_some, sym, ap, ◌∙◌}
use Rattle.tenant_service.specs.Removing.{with_stream}
use Rattle.tenant_service.specs.TenantState.{TenantState}
use Rattle.tenant_service.proofs.AccountLemmas.{held-found, held-missing}
use Rattle.tenant_service.proofs.removing.is_streaming.Goals as goal

pub returns-in-Some : goal.returns-in-Some
returns-in-Some c = λ pool.
    c.has_stream.ensures pool
    ∙ ap (λ (held : TenantState). is_some (with_stream held))
    (sym (held-found pool c.args.name.now c.args.tenants.now.entries c.in-Some.tenant.now
    (sym c.in-Some.ensures.value)))

pub returns-in-None : goal.returns-in-None
returns-in-None c = λ pool.
    ap (λ (held : TenantState). is_some (with_stream held))
    (sym (held-missing pool c.args.name.now c.args.tenants.now.entries (sym c.in-None.ensures.value)))

use Rattle.std.proofs.Common.{sym}
use Rattle.tenant_service.proofs.MergeLemmas.{refused-found, refused-missing}
use Rattle.tenant_service.proofs.merging.refusal_under.Goals as goal

pub returns-in-Some : goal.returns-in-Some
returns-in-Some c = λ pool.
    refused-found pool c.args.name.now c.args.tenants.now.entries c.in-Some.tenant.now
    c.refusal_of.result (sym c.in-Some.ensures.value) (c.refusal_of.ensures pool)

pub returns-in-None : goal.returns-in-None
returns-in-None c = λ pool.
    refused-missing pool c.args.name.now c.args.tenants.now.entries (sym c.in-None.ensures.value)

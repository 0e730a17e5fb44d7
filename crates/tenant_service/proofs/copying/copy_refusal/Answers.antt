use Rattle.std.proofs.Common.{sym, ◌∙◌}
use Rattle.tenant_service.proofs.CopyLemmas.{found-decides, missing-decides}
use Rattle.tenant_service.proofs.copying.copy_refusal.Goals as goal

pub returns-in-Some : goal.returns-in-Some
returns-in-Some c = λ pool.
    c.refusal_of.ensures pool
    ∙ found-decides pool c.args.from.now c.args.to.now c.args.tenants.now.entries c.in-Some.tenant.now c.in_default.ensures.0 c.in-Ok.ensures.0
    (rw c.in-Ok.ensures.1 at (sym c.in-Some.ensures.value))

pub returns-in-None : goal.returns-in-None
returns-in-None c = λ pool.
    missing-decides pool c.args.from.now c.args.to.now c.args.tenants.now.entries c.in_default.ensures.0 c.in-Ok.ensures.0
    (rw c.in-Ok.ensures.1 at (sym c.in-None.ensures.value))

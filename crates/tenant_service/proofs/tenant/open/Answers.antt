use Rattle.tenant_service.proofs.TenantLemmas.{took-opened}
use Rattle.tenant_service.proofs.tenant.open.Goals as goal

pub returns-in-Ok-clause-own : goal.returns-in-Ok-clause-own
returns-in-Ok-clause-own g c =
    rw c.set_phase.ensures
    (took-opened g.N.Naming.digest_of c.args.tenant.now.phase c.args.pool.now c.args.tenant.now.table c.args.tenant.now.refs
    c.in-Ok.opened c.new-stream.result c.in-Closed.is c.requires.stands.settled c.in-Ok.ensures.0 c.in-Ok.ensures.1
    c.new-stream.ensures)

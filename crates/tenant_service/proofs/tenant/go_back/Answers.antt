use Rattle.tenant_service.proofs.TenantLemmas.{given_up}
use Rattle.tenant_service.proofs.tenant.go_back.Goals as goal

pub returns-clause-left : goal.returns-clause-left
returns-clause-left g c =
    given_up c.args.tenant.now.phase c.args.pool.now c.roll_back.new.pool c.args.tenant.now.table c.roll_back.new.self c.args.tenant.now.refs
    c.requires.settled c.roll_back.ensures.objects

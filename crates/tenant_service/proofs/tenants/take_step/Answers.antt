use Rattle.std.proofs.Common.{rules}
use Rattle.tenant_service.proofs.tenants.take_step.Goals as goal

pub returns-in-Restart : goal.returns-in-Restart
returns-in-Restart g c = search rules

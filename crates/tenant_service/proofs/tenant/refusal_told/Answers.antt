use Rattle.std.proofs.Common.{rules}
use Rattle.tenant_service.proofs.tenant.refusal_told.Goals as goal

pub returns-in-Memory : goal.returns-in-Memory
returns-in-Memory c = search rules

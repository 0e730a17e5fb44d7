use Rattle.std.proofs.Common.{rules}
use Rattle.tenant_service.proofs.saving.lend_as_opened.Goals as goal

pub returns-in-Running : goal.returns-in-Running
returns-in-Running c = search rules

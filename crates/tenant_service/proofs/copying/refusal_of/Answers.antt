use Rattle.std.proofs.Common.{rules}
use Rattle.tenant_service.proofs.copying.refusal_of.Goals as goal

pub returns-else-has_nothing : goal.returns-else-has_nothing
returns-else-has_nothing c = search rules

use Rattle.std.proofs.Common.{rules}
use Rattle.tenant_service.proofs.tenants.name_of.Goals as goal

pub returns-in-Err : goal.returns-in-Err
returns-in-Err c = search rules

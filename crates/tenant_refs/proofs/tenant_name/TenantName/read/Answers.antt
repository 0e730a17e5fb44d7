use Rattle.std.proofs.Common.{rules}
use Rattle.tenant_refs.proofs.tenant_name.TenantName.read.Goals as goal

pub of-requires-clause-named : goal.of-requires-clause-named
of-requires-clause-named c = search rules

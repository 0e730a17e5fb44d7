use Rattle.std.proofs.Common.{rules}
use Rattle.tenant_refs.proofs.refs.Refs.set_head.Goals as goal

pub returns : goal.returns
returns c = search rules

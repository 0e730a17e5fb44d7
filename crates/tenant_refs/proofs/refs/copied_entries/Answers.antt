use Rattle.std.proofs.Common.{arith}
use Rattle.std.proofs.lemmas.Grind.{common_steps}
use Rattle.tenant_refs.proofs.refs.copied_entries.Goals as goal

pub returns : goal.returns
returns c = grind (arith, common_steps)

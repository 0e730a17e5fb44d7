use Rattle.std.proofs.Common.{rules}
use Rattle.stream_parts.proofs.target.Target.copy_of.Goals as goal

pub returns : goal.returns
returns c = search rules

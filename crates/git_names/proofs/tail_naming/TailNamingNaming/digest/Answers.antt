use Rattle.std.proofs.Common.{rules}
use Rattle.git_names.proofs.tail_naming.TailNamingNaming.digest.Goals as goal

pub returns : goal.returns
returns c = search rules

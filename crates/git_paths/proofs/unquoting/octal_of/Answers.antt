use Rattle.std.proofs.Common.{rules}
use Rattle.git_paths.proofs.unquoting.octal_of.Goals as goal

pub returns : goal.returns
returns c = search rules

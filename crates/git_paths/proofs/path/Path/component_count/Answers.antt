use Rattle.std.proofs.Common.{rules}
use Rattle.git_paths.proofs.path.Path.component_count.Goals as goal

pub returns : goal.returns
returns c = search rules

use Rattle.std.proofs.Common.{rules}
use Rattle.git_names.proofs.name.Name.to_hex.Goals as goal

pub returns : goal.returns
returns c = search rules

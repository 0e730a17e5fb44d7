use Rattle.std.proofs.Common.{rules}
use Rattle.git_names.proofs.name.Name.from_bytes.Goals as goal

pub returns : goal.returns
returns c = search rules

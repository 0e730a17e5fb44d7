use Rattle.std.proofs.Common.{rules}
use Rattle.git_names.proofs.ref_name.RefName.read.Goals as goal

pub returns : goal.returns
returns c = search rules

use Rattle.std.proofs.Common.{rules}
use Rattle.git_names.proofs.ref_name.RefName.try_clone.Goals as goal

pub returns : goal.returns
returns c = search rules

use Rattle.std.proofs.Common.{rules}
use Rattle.git_model.specs.ObjectName.{object_name}
use Rattle.git_names.proofs.object_name.name_of.Goals as goal

pub returns : goal.returns
unfolding object_name
returns g c = search rules

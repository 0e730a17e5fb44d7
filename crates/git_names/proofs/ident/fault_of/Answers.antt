use Rattle.std.proofs.Common.{rules}
use Rattle.git_model.specs.IdentReading.{read_ident}
use Rattle.git_names.proofs.ident.fault_of.Goals as goal

pub returns-in-None : goal.returns-in-None
unfolding read_ident
returns-in-None c = search rules

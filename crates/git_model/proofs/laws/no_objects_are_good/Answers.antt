use Rattle.git_model.proofs.Growing.{none_are}
use Rattle.git_model.proofs.laws.no_objects_are_good.Goals as goal

pub returns : goal.returns
returns c = none_are

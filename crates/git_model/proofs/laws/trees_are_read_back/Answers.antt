use Rattle.git_model.proofs.TreeReadings.{tree_back}
use Rattle.git_model.proofs.laws.trees_are_read_back.Goals as goal

pub returns : goal.returns
returns c = tree_back

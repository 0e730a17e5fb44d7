use Rattle.git_model.proofs.Growing.{held_taken_is}
use Rattle.git_model.proofs.laws.each_prefix_is_held.Goals as goal

pub returns : goal.returns
returns c = held_taken_is

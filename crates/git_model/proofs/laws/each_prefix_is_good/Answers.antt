use Rattle.git_model.proofs.Growing.{taken_is}
use Rattle.git_model.proofs.laws.each_prefix_is_good.Goals as goal

pub returns : goal.returns
returns c = taken_is

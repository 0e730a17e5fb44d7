use Rattle.git_model.proofs.Growing.{one_more_held}
use Rattle.git_model.proofs.laws.one_more_object_is_held.Goals as goal

pub returns : goal.returns
returns c = one_more_held

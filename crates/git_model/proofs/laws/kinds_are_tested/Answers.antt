use Rattle.git_model.proofs.Peelings.{is_of_kind}
use Rattle.git_model.proofs.laws.kinds_are_tested.Goals as goal

pub returns : goal.returns
returns c = is_of_kind

use Rattle.git_model.proofs.GoodRefs.{head_changes}
use Rattle.git_model.proofs.laws.refs_stay_good_under_another_head.Goals as goal

pub returns : goal.returns
returns c = head_changes

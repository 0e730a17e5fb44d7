use Rattle.git_model.proofs.GoodRefs.{refs_longer}
use Rattle.git_model.proofs.laws.refs_stay_good_beside_more_objects.Goals as goal

pub returns : goal.returns
returns c = refs_longer

use Rattle.git_model.proofs.GoodRefs.{ref_changes}
use Rattle.git_model.proofs.laws.refs_stay_good_where_one_changes.Goals as goal

pub returns : goal.returns
returns c = ref_changes

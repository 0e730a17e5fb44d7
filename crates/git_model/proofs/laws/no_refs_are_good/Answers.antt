use Rattle.git_model.proofs.GoodRefs.{no_refs_are}
use Rattle.git_model.proofs.laws.no_refs_are_good.Goals as goal

pub returns : goal.returns
returns c = no_refs_are

use Rattle.tree_build.proofs.Growing.{branch_stays}
use Rattle.tree_build.proofs.laws.files_stay.Goals as goal

pub returns : goal.returns
returns c = λ os id content b h. branch_stays id content os b h

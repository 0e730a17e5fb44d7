use Rattle.tree_build.proofs.Walks.{walk-few}
use Rattle.tree_build.proofs.laws.walks_read_few.Goals as goal

pub returns : goal.returns
returns c = λ h path. walk-few h path

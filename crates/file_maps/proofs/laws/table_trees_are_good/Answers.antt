use Rattle.file_maps.proofs.StandingGood.{trees-good}
use Rattle.file_maps.proofs.laws.table_trees_are_good.Goals as goal

pub returns : goal.returns
returns c = trees-good

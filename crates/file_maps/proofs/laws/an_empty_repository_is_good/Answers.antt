use Rattle.file_maps.proofs.GoodTrees.{empty-is}
use Rattle.file_maps.proofs.laws.an_empty_repository_is_good.Goals as goal

pub returns : goal.returns
returns c = empty-is

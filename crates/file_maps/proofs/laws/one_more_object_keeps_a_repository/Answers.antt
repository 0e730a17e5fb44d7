use Rattle.file_maps.proofs.GoodTrees.{repository-grows}
use Rattle.file_maps.proofs.laws.one_more_object_keeps_a_repository.Goals as goal

pub returns : goal.returns
returns c = repository-grows

use Rattle.file_maps.specs.StoredAgain.{Every}
use Rattle.file_maps.proofs.GoodObjects.{good-trees}
use Rattle.file_maps.proofs.StoredAgain.{stored-already}
use Rattle.file_maps.proofs.laws.good_objects_have_good_trees.Goals as goal

pub returns : goal.returns
returns c =
    λ digest os good. (
      good-trees digest os good,
      λ id fs t. stored-already digest os Every (good-trees digest os good) id fs t tt,
    )

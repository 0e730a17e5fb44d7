use Rattle.file_maps.specs.PlainTrees.{HasSummary}
use Rattle.file_maps.proofs.StoredAgain.{stored-already}
use Rattle.file_maps.proofs.laws.stored_trees_stay.Goals as goal

pub returns : goal.returns
returns c =
    λ digest os good id fs t. stored-already digest os (HasSummary os) good id fs t.tree t.plain

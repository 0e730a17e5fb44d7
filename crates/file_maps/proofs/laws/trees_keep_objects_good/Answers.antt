use Rattle.file_maps.proofs.TreesAdded.{nested_added}
use Rattle.file_maps.proofs.laws.trees_keep_objects_good.Goals as goal

pub returns : goal.returns
returns c = nested_added

use Rattle.file_maps.proofs.TreeOf.{tree-of}
use Rattle.file_maps.proofs.laws.trees_by_component.Goals as goal

pub returns : goal.returns
returns c = tree-of

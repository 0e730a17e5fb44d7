use Rattle.file_maps.proofs.FitTrees.{other-fits}
use Rattle.file_maps.proofs.laws.other_objects_keep_trees_fitting.Goals as goal

pub returns : goal.returns
returns c = other-fits

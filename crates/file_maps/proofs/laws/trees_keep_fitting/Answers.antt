use Rattle.file_maps.proofs.FitTrees.{nested-fit}
use Rattle.file_maps.proofs.laws.trees_keep_fitting.Goals as goal

pub returns : goal.returns
returns c = nested-fit

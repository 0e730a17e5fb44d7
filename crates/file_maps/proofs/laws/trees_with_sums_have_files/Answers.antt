use Rattle.file_maps.proofs.KnownTrees.{known-files}
use Rattle.file_maps.proofs.laws.trees_with_sums_have_files.Goals as goal

pub returns : goal.returns
returns c = known-files

use Rattle.file_maps.proofs.ByDirectory.{by-directory}
use Rattle.file_maps.proofs.laws.trees_by_directory.Goals as goal

pub returns : goal.returns
returns c = by-directory

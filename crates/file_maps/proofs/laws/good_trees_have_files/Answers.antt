use Rattle.file_maps.proofs.GoodObjects.{files-of}
use Rattle.file_maps.proofs.laws.good_trees_have_files.Goals as goal

pub returns : goal.returns
returns c = files-of

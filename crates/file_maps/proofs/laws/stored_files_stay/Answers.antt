use Rattle.file_maps.proofs.ListedLater.{tree-later}
use Rattle.file_maps.proofs.laws.stored_files_stay.Goals as goal

pub returns : goal.returns
returns c = tree-later

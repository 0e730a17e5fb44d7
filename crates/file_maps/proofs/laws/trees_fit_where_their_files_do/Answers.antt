use Rattle.file_maps.proofs.SumsAfter.{fit-from, within-from}
use Rattle.file_maps.proofs.laws.trees_fit_where_their_files_do.Goals as goal

pub returns : goal.returns
returns c digest os good = (within-from digest os good, fit-from digest os good)

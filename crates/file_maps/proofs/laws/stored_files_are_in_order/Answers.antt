use Rattle.file_maps.proofs.ListedOrder.{tree-listed}
use Rattle.file_maps.proofs.laws.stored_files_are_in_order.Goals as goal

pub returns : goal.returns
returns c = tree-listed

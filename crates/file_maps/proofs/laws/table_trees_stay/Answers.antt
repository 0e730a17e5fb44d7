use Rattle.file_maps.proofs.StoredTable.{table-stored}
use Rattle.file_maps.proofs.laws.table_trees_stay.Goals as goal

pub returns : goal.returns
returns c = table-stored

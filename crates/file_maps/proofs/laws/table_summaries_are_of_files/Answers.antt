use Rattle.file_maps.proofs.StoredTable.{table-summary}
use Rattle.file_maps.proofs.laws.table_summaries_are_of_files.Goals as goal

pub returns : goal.returns
returns c = table-summary

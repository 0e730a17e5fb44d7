use Rattle.pool_file_format.proofs.Formats.{bytes-each}
use Rattle.store_format.specs.Rows.{row_text, FitsRow}
use Rattle.store_format.specs.Lengths.{row_at}
use Rattle.store_format.proofs.Texts.{reads_row}
use Rattle.store_format.proofs.ListedLemmas.{listed_on}
use Rattle.store_format.proofs.laws.appended_rows_are_read.Goals as goal

pub returns : goal.returns
returns c = λ digest l bytes old new small fits e. listed_on digest row_text row_at FitsRow reads_row l bytes old new (bytes-each bytes small) fits e

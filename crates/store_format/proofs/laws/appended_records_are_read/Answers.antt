use Rattle.pool_file_format.proofs.Formats.{bytes-each}
use Rattle.store_format.specs.Records.{record_text, FitsRecord}
use Rattle.store_format.specs.Lengths.{record_at}
use Rattle.store_format.proofs.Texts.{reads_record}
use Rattle.store_format.proofs.ListedLemmas.{listed_on}
use Rattle.store_format.proofs.laws.appended_records_are_read.Goals as goal

pub returns : goal.returns
returns c = λ digest l bytes old new small fits e. listed_on digest record_text record_at FitsRecord reads_record l bytes old new (bytes-each bytes small) fits e

use Rattle.pool_file_format.proofs.Formats.{bytes-each}
use Rattle.pool_file_format.proofs.Files.{lengths_take, lengths_again}
use Rattle.pool_file_format.proofs.laws.what_is_printed_is_read.Goals as goal

pub returns-clause-again : goal.returns-clause-again
returns-clause-again c = lengths_again

pub returns-clause-found : goal.returns-clause-found
returns-clause-found c = λ bytes x small e. let w = lengths_take bytes x (bytes-each bytes small) e in (w.parts, w.fits, w.size)

use Rattle.pool_file_format.proofs.FieldLemmas.{whole_is}
use Rattle.pool_file_format.proofs.Readings.{reads_fails, reads_then, stops}
use Rattle.pool_file_format.proofs.WholeLemmas.{end_then}
use Rattle.pool_file_format.proofs.reading.read_whole.Goals as goal

pub returns-in_err-file : goal.returns-in_err-file
returns-in_err-file g c = stops _ _ _ c.from_residual.ensures.1 (whole_is (reads_fails _ _ c.in_err-file.ensures))

pub returns-in_err-digest : goal.returns-in_err-digest
returns-in_err-digest g c = stops _ _ _ c.from_residual-in_err-digest.ensures.1 (whole_is (reads_then _ _ c.in_ok-file.ensures (reads_fails _ _ c.in_err-digest.ensures)))

pub returns-in_err-read_end : goal.returns-in_err-read_end
returns-in_err-read_end g c = stops _ _ _ c.from_residual-in_err-read_end.ensures.1 (whole_is (reads_then _ _ c.in_ok-file.ensures (reads_then _ _ c.in_ok-digest.ensures (reads_fails _ _ c.in_err-read_end.ensures))))

pub returns : goal.returns
returns g c = whole_is (reads_then _ _ c.in_ok-file.ensures (reads_then _ _ c.in_ok-digest.ensures (end_then _ _ _ _ c.in_ok-read_end.ensures)))

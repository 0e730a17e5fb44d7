use Rattle.pool_file_format.proofs.FieldLemmas.{ref_is}
use Rattle.pool_file_format.proofs.Readings.{reads_fails, reads_then, reads_value, stops}
use Rattle.pool_file_format.proofs.fields.read_ref.Goals as goal

pub returns-in_err-name : goal.returns-in_err-name
returns-in_err-name g c = stops _ _ _ c.from_residual.ensures.1 (ref_is (reads_fails _ _ c.in_err-name.ensures))

pub returns-in_err-place : goal.returns-in_err-place
returns-in_err-place g c = stops _ _ _ c.from_residual-in_err-place.ensures.1 (ref_is (reads_then _ _ c.in_ok-name.ensures (reads_fails _ _ c.in_err-place.ensures)))

pub returns : goal.returns
returns g c = ref_is (reads_then _ _ c.in_ok-name.ensures (reads_then _ _ c.in_ok-place.ensures (reads_value _ _)))

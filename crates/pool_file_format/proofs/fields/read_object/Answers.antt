use Rattle.pool_file_format.proofs.FieldLemmas.{object_is}
use Rattle.pool_file_format.proofs.Readings.{reads_fails, reads_then, reads_value, stops}
use Rattle.pool_file_format.proofs.fields.read_object.Goals as goal

pub returns-in_err-kind : goal.returns-in_err-kind
returns-in_err-kind g c = stops _ _ _ c.from_residual.ensures.1 (object_is (reads_fails _ _ c.in_err-kind.ensures))

pub returns-in_err-bytes : goal.returns-in_err-bytes
returns-in_err-bytes g c = stops _ _ _ c.from_residual-in_err-bytes.ensures.1 (object_is (reads_then _ _ c.in_ok-kind.ensures (reads_fails _ _ c.in_err-bytes.ensures)))

pub returns : goal.returns
returns g c = object_is (reads_then _ _ c.in_ok-kind.ensures (reads_then _ _ c.in_ok-bytes.ensures (reads_value _ _)))

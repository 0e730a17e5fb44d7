use Rattle.pool_file_format.proofs.FieldLemmas.{byte_reads, byte_fails, one_of}
use Rattle.pool_file_format.proofs.Readings.{stops}
use Rattle.pool_file_format.proofs.fields.read_byte.Goals as goal

pub returns-in_err-fill : goal.returns-in_err-fill
returns-in_err-fill g c =
    stops _ _ _ c.from_residual.ensures.1 (byte_fails _ _ _ _ c.in_err-fill.ensures.length c.in_err-fill.ensures.reads)

pub returns : goal.returns
returns g c = byte_reads _ c.fill.new.room _ _ _ c.fill.ensures.length (one_of c.fill.new.room c.fill.ensures.length) c.in_ok-fill.ensures.reads

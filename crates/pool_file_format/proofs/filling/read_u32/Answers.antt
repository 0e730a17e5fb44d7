use Rattle.std.specs.Int.{w32}
use Rattle.pool_file_format.proofs.Readings.{number_reads, number_fails, stops}
use Rattle.pool_file_format.proofs.filling.read_u32.Goals as goal

pub returns-in_err-fill : goal.returns-in_err-fill
returns-in_err-fill g c =
    stops _ _ _ c.from_residual.ensures.1 (number_fails w32 _ _ _ _ c.in_err-fill.ensures.length c.in_err-fill.ensures.reads)

pub returns : goal.returns
returns g c = number_reads w32 _ c.fill.new.room c.from_be_bytes.result _ _ c.fill.ensures.length c.from_be_bytes.ensures c.in_ok-fill.ensures.reads

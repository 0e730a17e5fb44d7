use Rattle.std.specs.Int.{w64}
use Rattle.pool_file_format.specs.Lengths.{number_at}
use Rattle.pool_file_format.proofs.Readings.{counted_reads, counted_fails, stops}
use Rattle.pool_file_format.proofs.fields.read_numbers.Goals as goal

pub returns-in_err-count : goal.returns-in_err-count
returns-in_err-count g c = stops _ _ _ c.from_residual.ensures.1 (counted_fails (number_at w64) c.in_err-count.ensures)

pub returns : goal.returns
returns g c = counted_reads (number_at w64) c.in_ok-count.ensures c.read_many_numbers.ensures

use Rattle.std.specs.Int.{w64}
use Rattle.pool_file_format.proofs.Readings.{sized_reads, sized_fails, stops}
use Rattle.pool_file_format.proofs.fields.read_long.Goals as goal

pub returns-in_err-count : goal.returns-in_err-count
returns-in_err-count g c = stops _ _ _ c.from_residual.ensures.1 (sized_fails w64 c.in_err-count.ensures)

pub returns : goal.returns
returns g c = sized_reads w64 c.in_ok-count.ensures c.read_contents.ensures

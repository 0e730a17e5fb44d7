use Rattle.pool_file_format.specs.Lengths.{object_at}
use Rattle.pool_file_format.proofs.Readings.{counted_reads, counted_fails, stops}
use Rattle.pool_file_format.proofs.fields.read_objects.Goals as goal

pub returns-in_err-count : goal.returns-in_err-count
returns-in_err-count g c = stops _ _ _ c.from_residual.ensures.1 (counted_fails object_at c.in_err-count.ensures)

pub returns : goal.returns
returns g c = counted_reads object_at c.in_ok-count.ensures c.read_many_objects.ensures

use Rattle.pool_file_format.proofs.Readings.{stops}
use Rattle.pool_file_format.proofs.fields.read_owned.Goals as goal

pub returns-in_err-items : goal.returns-in_err-items
returns-in_err-items g c = stops _ _ _ c.from_residual.ensures.1 c.in_err-items.ensures

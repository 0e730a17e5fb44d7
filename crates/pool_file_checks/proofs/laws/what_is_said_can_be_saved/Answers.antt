use Rattle.pool_file_checks.proofs.Savable.{can_save}
use Rattle.pool_file_checks.proofs.laws.what_is_said_can_be_saved.Goals as goal

pub returns : goal.returns
returns c = record { said = can_save }

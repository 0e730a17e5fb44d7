use Rattle.pool_file_checks.proofs.Said.{file_again}
use Rattle.pool_file_checks.proofs.laws.what_is_said_is_saved.Goals as goal

pub returns : goal.returns
returns c = record { file = file_again }

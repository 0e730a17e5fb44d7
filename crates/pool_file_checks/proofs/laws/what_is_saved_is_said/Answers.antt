use Rattle.pool_file_checks.proofs.Saved.{saved_passes, saved_again}
use Rattle.pool_file_checks.proofs.laws.what_is_saved_is_said.Goals as goal

pub returns-clause-passes : goal.returns-clause-passes
returns-clause-passes c = saved_passes

pub returns-clause-again : goal.returns-clause-again
returns-clause-again c = saved_again

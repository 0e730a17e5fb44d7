use Rattle.std.proofs.Common.{rules}
use Rattle.pool_file_checks.proofs.judging.is_above.Goals as goal

pub returns-in-Greater : goal.returns-in-Greater
returns-in-Greater c = search rules

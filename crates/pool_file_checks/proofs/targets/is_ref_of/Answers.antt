use Rattle.std.proofs.Common.{rules}
use Rattle.pool_file_checks.proofs.targets.is_ref_of.Goals as goal

pub returns-in-Some : goal.returns-in-Some
returns-in-Some c = search rules

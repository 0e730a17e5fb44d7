use Rattle.std.proofs.Common.{rules}
use Rattle.pool_file_checks.proofs.standing.is_kind.Goals as goal

pub returns : goal.returns
returns c = search rules

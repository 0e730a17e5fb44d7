use Rattle.std.proofs.Common.{rules}
use Rattle.pool_file_format.proofs.sealing.is_same.Goals as goal

pub returns : goal.returns
returns c = search rules

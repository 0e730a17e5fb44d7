use Rattle.std.proofs.Common.{rules}
use Rattle.pool_file_format.proofs.printing.put_head.Goals as goal

pub returns-then-version-eq1 : goal.returns-then-version-eq1
returns-then-version-eq1 g c = search rules

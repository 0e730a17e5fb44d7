use Rattle.std.proofs.Common.{rules}
use Rattle.content_pool.proofs.pool.key_of.Goals as goal

pub returns-then-is : goal.returns-then-is
returns-then-is c = search rules

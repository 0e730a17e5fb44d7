use Rattle.std.proofs.Common.{rules}
use Rattle.content_pool.proofs.pool.Pool.name_of.Goals as goal

pub returns : goal.returns
returns g c = search rules

use Rattle.content_pool.proofs.PoolLemmas.{IsPool-once}
use Rattle.content_pool.proofs.pool.Pool.holds_each_once.Goals as goal

pub returns : goal.returns
returns g c = rw (← c.self.view_is) (IsPool-once _ _ c.self.invariant.0)

use Rattle.content_pool.proofs.PoolLemmas.{IsPool-once}
use Rattle.pool_tests.proofs.pools.plain_pool.PlainPool.put.Goals as goal

pub returns-in_err-id-clause-once : goal.returns-in_err-id-clause-once
returns-in_err-id-clause-once g c = rw (← c.self.view_is) (IsPool-once _ _ c.self.invariant)

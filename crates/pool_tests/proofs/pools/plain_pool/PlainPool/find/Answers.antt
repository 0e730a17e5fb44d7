use Rattle.content_pool.proofs.PoolLemmas.{IsPool-once}
use Rattle.pool_tests.proofs.PoolsInLists.{found_at}
use Rattle.pool_tests.proofs.pools.plain_pool.PlainPool.find.Goals as goal

pub returns-clause-once : goal.returns-clause-once
returns-clause-once g c = rw (← c.self.view_is) (IsPool-once _ _ c.self.invariant)

pub returns-clause-found : goal.returns-clause-found
returns-clause-found g c =
    rw (← c.self.view_is) (found_at _ _ _ c.self.invariant _ (rw c.as_slice.ensures.value at c.position_of.ensures))

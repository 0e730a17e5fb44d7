use Rattle.content_pool.proofs.CallerLemmas.{HoldsEachOnce-held}
use Rattle.pool_tests.proofs.pools.plain_pool.PlainPool.put_named.Goals as goal

pub returns-in-Some-clause-once : goal.returns-in-Some-clause-once
returns-in-Some-clause-once g c =
    HoldsEachOnce-held _ _ c.in-Some.position c.find.ensures.once c.in-Some.ensures.found.0 c.hold.ensures

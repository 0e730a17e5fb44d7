use Rattle.content_pool.proofs.CallerLemmas.{HoldsEachOnce-held}
use Rattle.content_pool.proofs.pool.Pool.put_named.Goals as goal

pub returns-in-Some-clause-once : goal.returns-in-Some-clause-once
returns-in-Some-clause-once g c =
    HoldsEachOnce-held _ _ c.in-Some.slot c.find.ensures.once c.in-Some.ensures.found.0 c.hold.ensures

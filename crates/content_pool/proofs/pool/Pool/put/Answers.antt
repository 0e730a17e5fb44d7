use Rattle.std.proofs.Common.{rules}
use Rattle.content_pool.proofs.PoolLemmas.{IsPool-once}
use Rattle.content_pool.proofs.pool.Pool.put.Goals as goal

pub returns-in_err-id-clause-once : goal.returns-in_err-id-clause-once
returns-in_err-id-clause-once g c = rw (← c.self.view_is) (IsPool-once _ _ c.self.invariant.0)

pub returns-clause-name : goal.returns-clause-name
returns-clause-name g c = search rules

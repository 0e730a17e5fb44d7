use Rattle.content_pool.specs.Pool.{IsVacant}
use Rattle.pool_tests.proofs.pools.takes_ten_thousand_contents.Given as goal

abbrev pub invariant-loop-number : goal.invariant-loop-number
invariant-loop-number l = IsVacant l.pool

use Rattle.std.proofs.Common.{◌≡◌, ◌+◌}
use Rattle.content_pool.specs.Pool.{holds}
use Rattle.pool_tests.proofs.pools.keeps_a_content_until_its_last_release.Given as goal

abbrev pub invariant-loop : goal.invariant-loop
invariant-loop l = holds l.pool l.slot + l.counter ≡ 5

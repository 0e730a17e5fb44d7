use Rattle.std.proofs.Common.{ℕ, ◌≤◌}
use Rattle.content_pool.specs.Pool.{holds}
use Rattle.pool_tests.proofs.pools.answer_alike.Given as goal

-- each turn adds one hold at most
abbrev pub invariant-loop-bytes : goal.invariant-loop-bytes
invariant-loop-bytes l =
    ((s : ℕ) → holds l.pool s ≤ l.bytes-index) × ((s : ℕ) → holds l.plain s ≤ l.bytes-index)

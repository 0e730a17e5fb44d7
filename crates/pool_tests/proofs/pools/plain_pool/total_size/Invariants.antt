use Rattle.std.proofs.Common.{◌≡◌, ◌-◌, ◌^◌, min, take, length, sum_by}
use Rattle.pool_tests.proofs.pools.plain_pool.total_size.Given as goal

abbrev pub invariant-loop-cell : goal.invariant-loop-cell
invariant-loop-cell l =
    l.total ≡ min (sum_by (λ e. length e.bytes) (take l.cell-index l.cells)) (2 ^ 64 - 1)

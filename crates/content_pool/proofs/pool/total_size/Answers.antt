use Rattle.std.proofs.Common.{◌≡◌, length, sum_by, ap, arith}
use Rattle.content_pool.proofs.StoredLemmas.{entries-sizes}
use Rattle.content_pool.proofs.pool.total_size.Goals as goal

pub returns : goal.returns
returns c =
    let left : sum_by (λ e. length e.1.bytes) c.loop-stored.stored-iterator ≡ 0 =
    ap (sum_by (λ e. length e.1.bytes)) c.in-None.ensures.steps.0 in
    omega
    (arith, left, c.loop-stored.invariant.2, c.loop-stored.invariant.3, entries-sizes 0 c.args.cells.now.slots)

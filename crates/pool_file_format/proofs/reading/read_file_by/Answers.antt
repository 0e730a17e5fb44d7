use Rattle.std.proofs.Common.{arith}
use Rattle.pool_file_format.specs.Lengths.{by_lengths}
use Rattle.pool_file_format.proofs.WholeLemmas.{reads_all}
use Rattle.pool_file_format.proofs.reading.read_file_by.Goals as goal

pub returns : goal.returns
returns g c =
    let r = c.calls.ensures in let s = c.saturating_add-bound.ensures in let i = c.calls.type_inv in
    let p = c.passed-passed.ensures in let j = c.passed-passed.type_inv in
    reads_all c.saturating_add-bound.result by_lengths _ _ _ (omega (arith, r, s)) (omega (arith, r, i)) (omega (arith, p, j)) c.read_whole.ensures

use Rattle.std.proofs.Common.{arith}
use Rattle.std.proofs.lemmas.List.Sums.{sum_by-append}
use Rattle.pool_file_format.proofs.digesting.TailSumDigestState.update.Goals as goal

pub returns : goal.returns
returns c message so =
    let i = c.sum_after-self.ensures in
    let a = sum_by-append (λ n. n) message c.args.bytes.now in
    omega (arith, so, i, a)

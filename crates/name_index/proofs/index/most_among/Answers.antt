use Rattle.std.proofs.Common.{ap, arith}
use Rattle.name_index.specs.Index.{shared_apart}
use Rattle.name_index.proofs.SharedDigits.{max_is, one_more}
use Rattle.name_index.proofs.index.most_among.Goals as goal

pub loop-other-preserved : goal.loop-other-preserved
loop-other-preserved c =
    let within = c.loop-other-test.true in
    let more = one_more c.args.id.now c.args.few.now c.loop-other.other-index c.other-item.result (omega arith) in
    omega (arith, ap (shared_apart c.args.id.now) c.other-item.is, c.loop-other.invariant, more, c.shared_apart.ensures, c.max-most.ensures, max_is)

use Rattle.std.proofs.Common.{arith}
use Rattle.pack_text.specs.Adler.{high_sum}
use Rattle.pack_text.proofs.Sums.{sum-next, high-next}
use Rattle.pack_text.proofs.adler.sums_after.Goals as goal

pub loop-byte-init : goal.loop-byte-init
unfolding high_sum
loop-byte-init c = (omega arith, omega arith, omega arith, omega arith)

pub loop-byte-preserved : goal.loop-byte-preserved
loop-byte-preserved c =
    let bytes = c.args.bytes.now in
    let i = c.loop-byte.byte-index in
    let lt = c.loop-byte-test.true in
    let was = c.loop-byte.invariant in
    let byte = c.type_inv.bytes i in
    let low = sum-next bytes i lt in
    let high = high-next c.args.low_before bytes i lt in (
      omega (arith, low, was.0),
      omega (arith, high, was.0, was.1),
      omega (arith, byte, was.2),
      omega (arith, byte, lt, c.requires.few, was.2, was.3),
    )

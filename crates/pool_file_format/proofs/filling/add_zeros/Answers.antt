use Rattle.std.proofs.Common.{◌+◌, ◌∙◌, sym, length, ap, arith}
use Rattle.pool_file_format.proofs.Readings.{zeros_on}
use Rattle.pool_file_format.proofs.filling.add_zeros.Goals as goal

pub loop-left-preserved : goal.loop-left-preserved
loop-left-preserved c =
    let i = c.loop-left.invariant in let m = c.min-piece.ensures in let a = c.as_slice.ensures in let n = ap length a.value in (
      omega (arith, i.0),
      zeros_on c.args.count c.loop-left.left c.min-piece.result (length c.as_slice.result.now + c.min-piece.result) c.loop-left.bytes.len c.args.bytes.now.items c.loop-left.bytes.items c.resize.new.self.items
          (omega (arith, m)) i.0 (ap (λ n. n + c.min-piece.result) n) (sym a.len ∙ n) i.1 c.in_ok-resize.ensures.items,
    )

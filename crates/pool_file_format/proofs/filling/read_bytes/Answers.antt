use Rattle.std.proofs.Common.{ap, length, arith}
use Rattle.pool_file_format.proofs.Readings.{starts_none, bytes_end, grows, stops}
use Rattle.pool_file_format.proofs.filling.read_bytes.Goals as goal

pub loop-left-init : goal.loop-left-init
loop-left-init g c = let n = ap length c.in_ok-bytes.ensures.items in (omega (arith, n), starts_none _ _ c.in_ok-bytes.ensures.items)

pub returns-in_err-fill_more : goal.returns-in_err-fill_more
returns-in_err-fill_more g c =
    let i = c.loop-left.invariant.0 in let m = c.min-block.ensures in
    stops _ _ _ c.from_residual-in_err-fill_more.ensures.1 (bytes_end _ c.min-block.result c.args.count c.in_err-fill_more.field-0.0 _ _ _ c.loop-left.bytes.items (omega (arith, i, m)) c.loop-left.invariant.1 c.in_err-fill_more.ensures)

pub loop-left-preserved : goal.loop-left-preserved
loop-left-preserved g c =
    let m = c.min-block.ensures in
    grows c.args.count c.loop-left.left c.min-block.result c.loop-left.bytes.items c.fill_more.new.bytes.items _ _ _ c.loop-left.invariant.0 (omega (arith, m)) c.loop-left.invariant.1 c.in_ok-fill_more.ensures

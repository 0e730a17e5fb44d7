use Rattle.std.proofs.Common.{arith}
use Rattle.std.proofs.lemmas.Result.{err_from_is_err_and}
use Rattle.pack_text.proofs.BlocksLeft.{left-start, left-next, left-fails, left-last}
use Rattle.pack_text.proofs.entry.put_blocks.Goals as goal

pub loop-rest-init : goal.loop-rest-init
loop-rest-init g c =
    left-start g.S.Sink.Took g.S.Sink.Failed g.met.S.Sink.adds_up c.args.sink.now c.args.bytes.now

pub returns-in_err-put_block : goal.returns-in_err-put_block
returns-in_err-put_block g c =
    let p = err_from_is_err_and c.from_residual.result c.from_residual.ensures.1 in
    rw (p.1, p.2) (left-fails g.S.Sink.Took g.S.Sink.Failed g.met.S.Sink.adds_up _ _ _ _ _
    c.loop-rest.rest.now _ _ c.loop-rest-test.true c.split_at.ensures.front c.split_at.ensures.back
    c.loop-rest.invariant c.in_err-put_block.ensures)

pub loop-rest-preserved : goal.loop-rest-preserved
loop-rest-preserved g c =
    left-next g.S.Sink.Took g.S.Sink.Failed g.met.S.Sink.adds_up _ _ _ _
    c.loop-rest.rest.now _ _ c.loop-rest-test.true c.split_at.ensures.front c.split_at.ensures.back
    (omega (arith, c.split_at.ensures.back_len, c.loop-rest-test.true))
    c.loop-rest.invariant c.in_ok-put_block.ensures

pub returns : goal.returns
returns g c =
    left-last g.S.Sink.Took g.S.Sink.Failed g.met.S.Sink.adds_up _ _ _ _ _
    c.loop-rest.rest.now c.loop-rest-test.false c.loop-rest.invariant c.put_block-2.ensures

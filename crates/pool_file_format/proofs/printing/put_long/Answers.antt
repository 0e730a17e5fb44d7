use Rattle.std.proofs.lemmas.Result.{err_from_is_err_and}
use Rattle.pool_file_format.proofs.Pieces.{then_gives, stops}
use Rattle.pool_file_format.proofs.printing.put_long.Goals as goal

pub returns-in_err-put_u64 : goal.returns-in_err-put_u64
returns-in_err-put_u64 g c =
    let p = err_from_is_err_and c.from_residual.result c.from_residual.ensures.1 in
    rw (p.1, p.2) (stops g.S.Sink.Took g.S.Sink.Failed _ _ _ _ _ g.met.S.Sink.adds_up c.in_err-put_u64.ensures)

pub returns : goal.returns
returns g c = then_gives g.S.Sink.Took g.S.Sink.Failed _ _ _ _ _ _ g.met.S.Sink.adds_up c.in_ok-put_u64.ensures (c.take.ensures)

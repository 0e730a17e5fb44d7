use Rattle.std.proofs.Common.{[], ◌∷◌, ap}
use Rattle.std.specs.Int.{w64}
use Rattle.std.proofs.lemmas.Result.{err_from_is_err_and}
use Rattle.pool_file_format.specs.Format.{sized}
use Rattle.pool_file_format.proofs.Pieces.{then_is, stops_is}
use Rattle.pool_file_format.proofs.printing.put_object.Goals as goal

pub returns-in_err-take : goal.returns-in_err-take
returns-in_err-take g c =
    let p = err_from_is_err_and c.from_residual.result c.from_residual.ensures.1 in
    let o = g.O.Printed.object c.args.object.now in
    rw (p.1, p.2) (stops_is g.S.Sink.Took g.S.Sink.Failed _ _ _ (c.kind.result ∷ []) (o.kind ∷ []) (sized w64 o.bytes) g.met.S.Sink.adds_up (ap (λ k. k ∷ []) c.kind.ensures) c.in_err-take.ensures)

pub returns : goal.returns
returns g c =
    let o = g.O.Printed.object c.args.object.now in
    then_is g.S.Sink.Took g.S.Sink.Failed _ _ _ _ (c.kind.result ∷ []) (o.kind ∷ []) (sized w64 c.contents.result.now) (sized w64 o.bytes) g.met.S.Sink.adds_up (ap (λ k. k ∷ []) c.kind.ensures) (ap (sized w64) c.contents.ensures) c.in_ok-take.ensures (c.put_long.ensures)

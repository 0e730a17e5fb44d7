use Rattle.std.proofs.Common.{refl, ap}
use Rattle.std.specs.Int.{w16}
use Rattle.std.proofs.lemmas.Result.{err_from_is_err_and}
use Rattle.pool_file_format.specs.Format.{sized, number_text}
use Rattle.pool_file_format.proofs.Pieces.{then_is, stops_is}
use Rattle.pool_file_format.proofs.printing.put_ref.Goals as goal

pub returns-in_err-put_short : goal.returns-in_err-put_short
returns-in_err-put_short g c =
    let p = err_from_is_err_and c.from_residual.result c.from_residual.ensures.1 in
    rw (p.1, p.2) (stops_is g.S.Sink.Took g.S.Sink.Failed _ _ _ (sized w16 c.deref.result.now) (sized w16 c.args.one.now.name.items) (number_text c.args.one.now.place) g.met.S.Sink.adds_up (ap (sized w16) c.deref.ensures.value) c.in_err-put_short.ensures)

pub returns : goal.returns
returns g c =
    then_is g.S.Sink.Took g.S.Sink.Failed _ _ _ _ (sized w16 c.deref.result.now) (sized w16 c.args.one.now.name.items) (number_text c.args.one.now.place) (number_text c.args.one.now.place) g.met.S.Sink.adds_up (ap (sized w16) c.deref.ensures.value) refl c.in_ok-put_short.ensures (c.put_u64.ensures)

use Rattle.std.proofs.Common.{◌++◌, refl, ap}
use Rattle.std.specs.Int.{w16}
use Rattle.std.proofs.lemmas.Result.{err_from_is_err_and}
use Rattle.pool_file_format.specs.Format.{sized, number_text, counted, ref_text, head_text}
use Rattle.pool_file_format.specs.Shown.{refs_of}
use Rattle.pool_file_format.proofs.Pieces.{then_is, stops_is, stops_later}
use Rattle.pool_file_format.proofs.printing.put_tenant.Goals as goal

pub returns-in_err-put_short : goal.returns-in_err-put_short
returns-in_err-put_short g c =
    let p = err_from_is_err_and c.from_residual.result c.from_residual.ensures.1 in
    rw (p.1, p.2) (stops_is g.S.Sink.Took g.S.Sink.Failed _ _ _ (sized w16 c.deref.result.now) (sized w16 c.args.tenant.now.name.items) ((counted number_text c.args.tenant.now.numbers.items) ++ (counted ref_text (refs_of c.args.tenant.now.refs.items) ++ head_text c.args.version c.args.tenant.now.head.items)) g.met.S.Sink.adds_up (ap (sized w16) c.deref.ensures.value) c.in_err-put_short.ensures)

pub returns-in_err-put_numbers : goal.returns-in_err-put_numbers
returns-in_err-put_numbers g c =
    let p = err_from_is_err_and c.from_residual-in_err-put_numbers.result c.from_residual-in_err-put_numbers.ensures.1 in
    rw (p.1, p.2) (stops_later g.S.Sink.Took g.S.Sink.Failed _ _ _ (sized w16 c.deref.result.now) (sized w16 c.args.tenant.now.name.items) (counted number_text c.deref-2.result.now) (counted number_text c.args.tenant.now.numbers.items) (counted ref_text (refs_of c.args.tenant.now.refs.items) ++ head_text c.args.version c.args.tenant.now.head.items) g.met.S.Sink.adds_up (ap (sized w16) c.deref.ensures.value) (ap (counted number_text) c.deref-2.ensures.value) c.in_ok-put_short.ensures c.in_err-put_numbers.ensures)

pub returns : goal.returns
returns g c =
    then_is g.S.Sink.Took g.S.Sink.Failed _ _ _ _ (sized w16 c.deref.result.now) (sized w16 c.args.tenant.now.name.items) ((counted number_text c.args.tenant.now.numbers.items) ++ (counted ref_text (refs_of c.args.tenant.now.refs.items) ++ head_text c.args.version c.args.tenant.now.head.items)) ((counted number_text c.args.tenant.now.numbers.items) ++ (counted ref_text (refs_of c.args.tenant.now.refs.items) ++ head_text c.args.version c.args.tenant.now.head.items)) g.met.S.Sink.adds_up (ap (sized w16) c.deref.ensures.value) refl c.in_ok-put_short.ensures (then_is g.S.Sink.Took g.S.Sink.Failed _ _ _ _ (counted number_text c.deref-2.result.now) (counted number_text c.args.tenant.now.numbers.items) (counted ref_text (refs_of c.args.tenant.now.refs.items) ++ head_text c.args.version c.args.tenant.now.head.items) (counted ref_text (refs_of c.args.tenant.now.refs.items) ++ head_text c.args.version c.args.tenant.now.head.items) g.met.S.Sink.adds_up (ap (counted number_text) c.deref-2.ensures.value) refl c.in_ok-put_numbers.ensures (c.put_ends.ensures))

use Rattle.std.proofs.Common.{ap}
use Rattle.std.proofs.lemmas.Result.{err_from_is_err_and}
use Rattle.pool_file_format.specs.Format.{counted, ref_text, head_text}
use Rattle.pool_file_format.specs.Shown.{refs_of}
use Rattle.pool_file_format.proofs.Pieces.{then_is, stops_is}
use Rattle.pool_file_format.proofs.printing.put_ends.Goals as goal

pub returns-in_err-put_refs : goal.returns-in_err-put_refs
returns-in_err-put_refs g c =
    let p = err_from_is_err_and c.from_residual.result c.from_residual.ensures.1 in
    rw (p.1, p.2) (stops_is g.S.Sink.Took g.S.Sink.Failed _ _ _ (counted ref_text (refs_of c.deref.result.now)) (counted ref_text (refs_of c.args.tenant.now.refs.items)) (head_text c.args.version c.args.tenant.now.head.items) g.met.S.Sink.adds_up (ap (λ rs. counted ref_text (refs_of rs)) c.deref.ensures.value) c.in_err-put_refs.ensures)

pub returns : goal.returns
returns g c =
    then_is g.S.Sink.Took g.S.Sink.Failed _ _ _ _ (counted ref_text (refs_of c.deref.result.now)) (counted ref_text (refs_of c.args.tenant.now.refs.items)) (head_text c.args.version c.deref-2.result.now) (head_text c.args.version c.args.tenant.now.head.items) g.met.S.Sink.adds_up (ap (λ rs. counted ref_text (refs_of rs)) c.deref.ensures.value) (ap (head_text c.args.version) c.deref-2.ensures.value) c.in_ok-put_refs.ensures (c.put_head.ensures)

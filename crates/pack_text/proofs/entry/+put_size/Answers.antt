use Rattle.std.proofs.Common.{◌+◌, ◌-◌, ◌/◌, ◌%◌, [], ◌∷◌, refl}
use Rattle.std.proofs.lemmas.Result.{err_from_is_err_and}
use Rattle.pool_file_format.proofs.Pieces.{then_is, stops_is}
use Rattle.pack_text.specs.PackText.{size_text}
use Rattle.pack_text.proofs.Heads.{size-more}
use Rattle.pack_text.proofs.entry.+put_size.Goals as goal

pub returns-in_err-take : goal.returns-in_err-take
returns-in_err-take g t c =
    let p = err_from_is_err_and c.from_residual.result c.from_residual.ensures.1 in
    let one = (c.args.byte + 128) ∷ [] in
    let more = size_text (c.args.left - 1) (c.args.rest % 128) (c.args.rest / 128) in
    rw (p.1, p.2, size-more c.args.left c.args.byte c.args.rest c.if-left-eq0.false c.if-rest-eq0.false)
    (stops_is g.S.Sink.Took g.S.Sink.Failed _ _ _ one one more g.met.S.Sink.adds_up refl
    c.in_err-take.ensures)

pub returns : goal.returns
returns g t c =
    let one = (c.args.byte + 128) ∷ [] in
    let more = size_text (c.args.left - 1) (c.args.rest % 128) (c.args.rest / 128) in
    rw (size-more c.args.left c.args.byte c.args.rest c.if-left-eq0.false c.if-rest-eq0.false)
    (then_is g.S.Sink.Took g.S.Sink.Failed _ _ _ _ one one more more g.met.S.Sink.adds_up refl refl
    c.in_ok-take.ensures c.put_size.ensures)

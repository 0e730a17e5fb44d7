use Rattle.std.proofs.Common.{length, refl}
use Rattle.std.proofs.lemmas.Result.{err_from_is_err_and}
use Rattle.pool_file_format.proofs.Pieces.{then_is, stops_is}
use Rattle.pack_text.specs.PackText.{head_text, zlib_text}
use Rattle.pack_text.proofs.entry.put_entry.Goals as goal

pub returns-in_err-put_head : goal.returns-in_err-put_head
returns-in_err-put_head g c =
    let p = err_from_is_err_and c.from_residual.result c.from_residual.ensures.1 in
    let bytes = c.args.contents.now in
    let head = head_text c.args.kind (length bytes) in
    rw (p.1, p.2) (stops_is g.S.Sink.Took g.S.Sink.Failed _ _ _ head head (zlib_text bytes)
    g.met.S.Sink.adds_up refl c.in_err-put_head.ensures)

pub returns : goal.returns
returns g c =
    let bytes = c.args.contents.now in
    let head = head_text c.args.kind (length bytes) in
    then_is g.S.Sink.Took g.S.Sink.Failed _ _ _ _ head head (zlib_text bytes) (zlib_text bytes)
    g.met.S.Sink.adds_up refl refl c.in_ok-put_head.ensures c.put_zlib.ensures

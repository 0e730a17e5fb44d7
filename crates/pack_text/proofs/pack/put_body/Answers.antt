use Rattle.std.proofs.Common.{length, refl, ap, ◌∙◌}
use Rattle.std.specs.List.{flat_map}
use Rattle.std.proofs.lemmas.Result.{err_from_is_err_and}
use Rattle.pool_file_format.proofs.Pieces.{then_is, stops_is}
use Rattle.pack_text.specs.PackText.{entry_text, header_text}
use Rattle.pack_text.proofs.pack.put_body.Goals as goal

pub returns-in_err-take : goal.returns-in_err-take
returns-in_err-take g c =
    let contents = g.C.PackContents.contents c.args.contents.now in
    let p = err_from_is_err_and c.from_residual.result c.from_residual.ensures.1 in
    rw (p.1, p.2) (stops_is g.S.Sink.Took g.S.Sink.Failed _ _ _ _ (header_text (length contents))
    (flat_map entry_text contents) g.met.S.Sink.adds_up
    (c.header.ensures ∙ ap header_text c.len.ensures) c.in_err-take.ensures)

pub returns : goal.returns
returns g c =
    let contents = g.C.PackContents.contents c.args.contents.now in
    let entries = flat_map entry_text contents in
    then_is g.S.Sink.Took g.S.Sink.Failed _ _ _ _ _ (header_text (length contents)) entries entries
    g.met.S.Sink.adds_up (c.header.ensures ∙ ap header_text c.len.ensures) refl
    c.in_ok-take.ensures c.put_entries.ensures

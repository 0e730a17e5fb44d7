use Rattle.std.proofs.Common.{refl, sym}
use Rattle.std.proofs.lemmas.Result.{err_from_is_err_and}
use Rattle.pack_text.specs.PackText.{pack_body}
use Rattle.pack_text.proofs.Fed.{fed_all, fed_broken, writes_end, stops_before}
use Rattle.pack_text.proofs.pack.write_pack.Goals as goal

pub returns-in_err-answer : goal.returns-in_err-answer
returns-in_err-answer g c =
    let H = g.N.Run.DigestState.Holds in
    let C = g.W.Write.contents in
    let body = pack_body (g.C.PackContents.contents c.args.contents.now) in
    let p = err_from_is_err_and c.from_residual.result c.from_residual.ensures.1 in
    let failed = c.in_err-answer.ensures.gives in
    let now = c.put_blocks-answer.new.blocks.writer.now in
    stops_before C c.args.writer.now now _ c.from_residual.result _ body (g.N.Naming.digest_of body) p.1
    (c.in_err-answer.writer-1-own.given.1 (sym failed.0))
    (fed_broken H C c.args.writer.now now _ body c.start.ensures refl c.new.ensures.items failed.1)

pub returns : goal.returns
returns g c =
    let H = g.N.Run.DigestState.Holds in
    let C = g.W.Write.contents in
    let body = pack_body (g.C.PackContents.contents c.args.contents.now) in
    let took = c.in_ok-answer.ensures.gives in
    let new = c.put_blocks-answer.new.blocks in
    let whole = fed_all H C c.args.writer.now _ new body c.start.ensures refl c.new.ensures.items
    took.1 c.in_ok-answer.ensures.none in
    writes_end C c.args.writer.now new.writer.now c.write_bytes.new.writer _ c.write_bytes.result body
    (g.N.Naming.digest_of body) c.end.result whole.written (c.end.ensures body whole.digested)
    (c.writer-2-1.given.1 (sym took.0)) c.write_bytes.ensures

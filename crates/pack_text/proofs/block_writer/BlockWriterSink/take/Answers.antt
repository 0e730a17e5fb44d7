use Rattle.std.proofs.Common.{[], Ok, Err, refl, ◌∙◌}
use Rattle.std.proofs.lemmas.Result.{err_from_is_err_and}
use Rattle.pool_file_format.proofs.Pieces.{then_gives}
use Rattle.pack_text.specs.AddingUp.{blocks_add_up}
use Rattle.pack_text.specs.BlockWriting.{TookBlocks, FailedBlocks}
use Rattle.pack_text.proofs.Fed.{fed_after, fed_past, fed_waits}
use Rattle.pack_text.proofs.block_writer.BlockWriterSink.take.Goals as goal

pub returns-in_err-pass_on : goal.returns-in_err-pass_on
returns-in_err-pass_on g c =
    let H = g.D.DigestState.Holds in
    let C = g.W.Write.contents in
    let p = err_from_is_err_and c.from_residual.result c.from_residual.ensures.1 in
    rw p.1 (fed_after H C c.args.self.now c.pass_on.new.self c.keep.new.block (Err p.0) c.args.bytes.now c.if-keep.ensures.left
    ((blocks_add_up H C).earlier (record c.args.self.now { block = c.keep.new.block }) c.pass_on.new.self [] c.args.bytes.now c.in_err-pass_on.ensures.gives))

pub returns-then-keep-2 : goal.returns-then-keep-2
returns-then-keep-2 g c =
    let H = g.D.DigestState.Holds in
    let C = g.W.Write.contents in
    let kept = record c.args.self.now { block = c.keep.new.block } in
    let now = c.pass_on.new.self in
    let new = record now { block = c.keep-2.new.block } in
    fed_after H C c.args.self.now new c.keep.new.block (Ok tt) c.args.bytes.now c.if-keep.ensures.left
    ((blocks_add_up H C).both kept now new [] c.args.bytes.now c.in_ok-pass_on.ensures.gives
    (fed_waits H C now new c.args.bytes.now refl refl refl c.if-keep-2.ensures.kept))

pub returns : goal.returns
returns g c =
    let H = g.D.DigestState.Holds in
    let C = g.W.Write.contents in
    let bytes = c.args.bytes.now in
    let now = c.pass_on.new.self in
    let new = record now { block = c.keep-2.new.block } in
    fed_after H C c.args.self.now _ c.keep.new.block c.send.result bytes c.if-keep.ensures.left
    (then_gives (TookBlocks H C) (FailedBlocks H C) _ now _ c.send.result [] bytes (blocks_add_up H C) c.in_ok-pass_on.ensures.gives
    (fed_after H C now _ c.keep-2.new.block c.send.result bytes c.if-keep-2.ensures.left
    (fed_past H C new c.send.new.running c.send.new.writer c.send.result bytes (c.if-keep-2.ensures.left ∙ c.in_ok-pass_on.ensures.none)
    c.send.ensures.digested c.send.ensures.written)))

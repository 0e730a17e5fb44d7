use Rattle.std.proofs.Common.{sym}
use Rattle.std.proofs.lemmas.Result.{err_from_is_err_and}
use Rattle.pack_text.proofs.Fed.{fed_stops}
use Rattle.pack_text.proofs.block_writer.BlockWriter.pass_on.Goals as goal

pub returns-in_err-send-clause-gives : goal.returns-in_err-send-clause-gives
returns-in_err-send-clause-gives g c =
    let p = err_from_is_err_and c.from_residual.result c.from_residual.ensures.1 in
    rw p.1 (fed_stops g.D.DigestState.Holds g.W.Write.contents c.args.self.now c.send.new.running
    c.send.new.writer _ (sym c.deref.ensures.value) c.in_err-send.ensures.written)

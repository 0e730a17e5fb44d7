use Rattle.std.proofs.Common.{◌%◌, length, refl}
use Rattle.std.specs.Int.{w16, to_be_bytes}
use Rattle.std.proofs.lemmas.Result.{err_from_is_err_and}
use Rattle.pool_file_format.proofs.Pieces.{then_is, stops_is, short_length}
use Rattle.pool_file_format.proofs.printing.put_short.Goals as goal

pub returns-in_err-put_u16 : goal.returns-in_err-put_u16
returns-in_err-put_u16 g c =
    let p = err_from_is_err_and c.from_residual.result c.from_residual.ensures.1 in
    rw (p.1, p.2) (stops_is g.S.Sink.Took g.S.Sink.Failed _ _ _ (to_be_bytes w16 (length c.args.bytes.now % 65536)) (to_be_bytes w16 (length c.args.bytes.now)) c.args.bytes.now g.met.S.Sink.adds_up (short_length (length c.args.bytes.now) (length c.args.bytes.now % 65536) refl) c.in_err-put_u16.ensures)

pub returns : goal.returns
returns g c =
    then_is g.S.Sink.Took g.S.Sink.Failed _ _ _ _ (to_be_bytes w16 (length c.args.bytes.now % 65536)) (to_be_bytes w16 (length c.args.bytes.now)) c.args.bytes.now c.args.bytes.now g.met.S.Sink.adds_up (short_length (length c.args.bytes.now) (length c.args.bytes.now % 65536) refl) refl c.in_ok-put_u16.ensures (c.take.ensures)

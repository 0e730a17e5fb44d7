use Rattle.std.proofs.Common.{◌-◌, ◌∷◌, ◌++◌, length, refl}
use Rattle.std.specs.Int.{w16, to_le_bytes}
use Rattle.std.proofs.lemmas.Result.{err_from_is_err_and}
use Rattle.pool_file_format.proofs.Pieces.{then_is, stops_is}
use Rattle.pack_text.proofs.entry.put_block.Goals as goal

pub returns-in_err-take : goal.returns-in_err-take
returns-in_err-take g c =
    let p = err_from_is_err_and c.from_residual.result c.from_residual.ensures.1 in
    let part = c.args.part.now in
    let head = c.args.last ∷ to_le_bytes w16 (length part) ++ to_le_bytes w16 (65535 - length part) in
    rw (p.1, p.2) (stops_is g.S.Sink.Took g.S.Sink.Failed _ _ _ _ head part g.met.S.Sink.adds_up
    c.block_head.ensures c.in_err-take.ensures)

pub returns : goal.returns
returns g c =
    let part = c.args.part.now in
    let head = c.args.last ∷ to_le_bytes w16 (length part) ++ to_le_bytes w16 (65535 - length part) in
    then_is g.S.Sink.Took g.S.Sink.Failed _ _ _ _ _ head part part g.met.S.Sink.adds_up
    c.block_head.ensures refl c.in_ok-take.ensures c.take-2.ensures

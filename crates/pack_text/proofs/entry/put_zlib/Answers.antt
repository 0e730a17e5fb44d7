use Rattle.std.proofs.Common.{[], ◌∷◌, ◌++◌, length, refl}
use Rattle.std.specs.Int.{w32, to_be_bytes}
use Rattle.std.proofs.lemmas.Result.{err_from_is_err_and}
use Rattle.pool_file_format.proofs.Pieces.{then_is, stops_is, stops_later}
use Rattle.pack_text.specs.Adler.{adler32}
use Rattle.pack_text.specs.PackText.{blocks_text}
use Rattle.pack_text.proofs.entry.put_zlib.Goals as goal

pub returns-in_err-take : goal.returns-in_err-take
returns-in_err-take g c =
    let p = err_from_is_err_and c.from_residual.result c.from_residual.ensures.1 in
    let bytes = c.args.bytes.now in
    let front = 0x78 ∷ 0x01 ∷ [] in
    let blocks = blocks_text (length bytes) bytes in
    let end = to_be_bytes w32 (adler32 bytes) in
    rw (p.1, p.2) (stops_is g.S.Sink.Took g.S.Sink.Failed _ _ _ front front (blocks ++ end)
    g.met.S.Sink.adds_up refl c.in_err-take.ensures)

pub returns-in_err-put_blocks : goal.returns-in_err-put_blocks
returns-in_err-put_blocks g c =
    let p = err_from_is_err_and c.from_residual-in_err-put_blocks.result
    c.from_residual-in_err-put_blocks.ensures.1 in
    let bytes = c.args.bytes.now in
    let front = 0x78 ∷ 0x01 ∷ [] in
    let blocks = blocks_text (length bytes) bytes in
    let end = to_be_bytes w32 (adler32 bytes) in
    rw (p.1, p.2) (stops_later g.S.Sink.Took g.S.Sink.Failed _ _ _ front front blocks blocks end
    g.met.S.Sink.adds_up refl refl c.in_ok-take.ensures c.in_err-put_blocks.ensures)

pub returns : goal.returns
returns g c =
    let bytes = c.args.bytes.now in
    let front = 0x78 ∷ 0x01 ∷ [] in
    let blocks = blocks_text (length bytes) bytes in
    let end = to_be_bytes w32 (adler32 bytes) in
    then_is g.S.Sink.Took g.S.Sink.Failed _ _ _ _ front front (blocks ++ end) (blocks ++ end)
    g.met.S.Sink.adds_up refl refl c.in_ok-take.ensures
    (then_is g.S.Sink.Took g.S.Sink.Failed _ _ _ _ blocks blocks end end
    g.met.S.Sink.adds_up refl refl c.in_ok-put_blocks.ensures c.put_checksum.ensures)

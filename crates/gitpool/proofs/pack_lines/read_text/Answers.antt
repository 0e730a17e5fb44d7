use Rattle.std.proofs.Common.{◌++◌, take}
use Rattle.std.proofs.lemmas.Result.{err_from_is_err_and}
use Rattle.byte_devices.proofs.ReadLemmas.{one_well, well_more}
use Rattle.gitpool.proofs.pack_lines.read_text.Goals as goal

pub returns-in_err-append-in-Ok : goal.returns-in_err-append-in-Ok
returns-in_err-append-in-Ok g c =
    let p = err_from_is_err_and c.from_residual.result c.from_residual.ensures.1 in
    rw (p.1, p.2) (
      c.loop-block.text.items ++ take c.in-Ok.n c.read.new.buf,
      well_more _ _ _ _ _ c.loop-block.invariant.1
          (one_well _ _ c.in-Ok.n c.read.new.buf c.in-Ok.ensures.bound.1 c.in-Ok.ensures.bytes.0 c.in-Ok.ensures.passed c.in-Ok.ensures.faults),
    )

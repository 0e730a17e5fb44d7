use Rattle.std.proofs.Common.{◌∙◌}
use Rattle.pool_file_format.proofs.Pieces.{numbers_on}
use Rattle.pool_file_format.proofs.printing.put_many_numbers.Goals as goal

pub loop-left-preserved : goal.loop-left-preserved
loop-left-preserved g c =
    let e = c.split_at.ensures in
    numbers_on g.S.Sink.Took g.S.Sink.Failed _ _ _ _ c.loop-left.left.now c.split_at.result.0.now c.split_at.result.1.now c.as_slice.result.now c.min.result g.met.S.Sink.adds_up e.front e.back
    (c.as_slice.ensures ∙ c.of.ensures) c.loop-left.invariant c.in_ok-take.ensures

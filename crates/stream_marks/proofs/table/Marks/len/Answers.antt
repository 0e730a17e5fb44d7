use Rattle.std.proofs.Common.{arith}
use Rattle.stream_marks.proofs.InTurn.{length-marks_from, length-in_turn}
use Rattle.stream_marks.proofs.table.Marks.len.Goals as goal

pub overflow_add-result : goal.overflow_add-result
overflow_add-result c =
    let list = c.self.inside.in_order in
    omega (arith, c.self.invariant.counted, c.len.ensures.small, length-marks_from 1 list.items)

pub returns : goal.returns
returns c = rw (← c.self.view_is) (omega (
  arith,
  c.self.invariant.counted,
  c.len.ensures.len,
  length-in_turn c.self.inside.in_order.items c.self.inside.others.entries,
))

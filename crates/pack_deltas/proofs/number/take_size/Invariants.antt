use Rattle.pack_deltas.proofs.Numbers.{IsSizeSo}
use Rattle.pack_deltas.proofs.number.take_size.Given as goal

abbrev pub invariant-loop-left : goal.invariant-loop-left
invariant-loop-left l = IsSizeSo l.text l.rest l.size l.scale l.left

abbrev pub decreases-loop-left : goal.decreases-loop-left
decreases-loop-left l = l.left

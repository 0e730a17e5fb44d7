use Rattle.std.proofs.Common.{◌<◌, length}
use Rattle.pack_text.proofs.Sums.{IsSummed}
use Rattle.pack_text.proofs.adler.adler32.Given as goal

abbrev pub invariant-loop-left : goal.invariant-loop-left
invariant-loop-left l = IsSummed l.bytes l.left l.low l.high × (l.low < 65521) × (l.high < 65521)

abbrev pub decreases-loop-left : goal.decreases-loop-left
decreases-loop-left l = length l.left

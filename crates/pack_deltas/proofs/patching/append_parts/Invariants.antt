use Rattle.std.proofs.Common.{length}
use Rattle.pack_deltas.proofs.Parts.{IsMadeSo}
use Rattle.pack_deltas.proofs.patching.append_parts.Given as goal

abbrev pub invariant-loop-code : goal.invariant-loop-code
invariant-loop-code l = IsMadeSo l.base l.instructions l.rest l.made.items l.size

abbrev pub decreases-loop-code : goal.decreases-loop-code
decreases-loop-code l = length l.rest

use Rattle.std.proofs.Common.{length}
use Rattle.revisions.proofs.Suffixes.{IsRead}
use Rattle.revisions.proofs.expression_reading.read_suffixes.Given as goal

abbrev pub invariant-loop-piece : goal.invariant-loop-piece
invariant-loop-piece l = IsRead l.marked l.rest l.suffixes.items

abbrev pub decreases-loop-piece : goal.decreases-loop-piece
decreases-loop-piece l = length l.rest

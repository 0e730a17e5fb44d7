use Rattle.revisions.proofs.Parting.{IsPassed}
use Rattle.revisions.proofs.cutting.split_at_part.Given as goal

abbrev pub invariant-loop-place : goal.invariant-loop-place
invariant-loop-place l = IsPassed l.part l.text l.place

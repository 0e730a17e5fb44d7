use Rattle.std.proofs.Common.{◌≡◌, length}
use Rattle.git_model.specs.Bytes.{holds}
use Rattle.git_names.proofs.ref_text.holds_part.Given as goal

abbrev pub invariant-loop-rest : goal.invariant-loop-rest
invariant-loop-rest l = holds l.text l.part ≡ holds l.rest l.part

abbrev pub decreases-loop-rest : goal.decreases-loop-rest
decreases-loop-rest l = length l.rest

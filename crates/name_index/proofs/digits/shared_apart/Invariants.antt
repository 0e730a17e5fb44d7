use Rattle.std.proofs.Common.{◌≡◌, take}
use Rattle.name_index.proofs.digits.shared_apart.Given as goal

abbrev pub invariant-loop-place : goal.invariant-loop-place
invariant-loop-place l = take l.place l.ours ≡ take l.place l.theirs

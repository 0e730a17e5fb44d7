use Rattle.std.proofs.Common.{◌≡◌, ◌≤◌, take}
use Rattle.pool_file_checks.proofs.fronts.common_count.Given as goal

abbrev pub invariant-loop-place : goal.invariant-loop-place
invariant-loop-place l = (take l.place l.numbers ≡ take l.place l.others) × (l.place ≤ l.most)

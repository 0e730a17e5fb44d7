use Rattle.std.proofs.Common.{◌-◌, ◌≤◌, length}
use Rattle.name_index.proofs.index.longer.Given as goal

abbrev pub invariant-loop-place : goal.invariant-loop-place
invariant-loop-place l =
    (l.floor ≤ l.place) × (l.place ≤ l.kept) × (l.kept ≤ length l.runs)

abbrev pub decreases-loop-place : goal.decreases-loop-place
decreases-loop-place l = l.place - l.floor

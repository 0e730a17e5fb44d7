use Rattle.std.proofs.Common.{◌≡◌, ◌-◌, ◌≤◌, ◌++◌, replicate}
use Rattle.pool_file_format.proofs.filling.add_zeros.Given as goal

-- All zeros but those that are left were appended.
abbrev pub invariant-loop-left : goal.invariant-loop-left
invariant-loop-left l = (l.left ≤ l.count) × (l.bytes.items ≡ l.initial.bytes.items ++ replicate (l.count - l.left) 0)

abbrev pub decreases-loop-left : goal.decreases-loop-left
decreases-loop-left l = l.left

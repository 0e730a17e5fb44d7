use Rattle.std.proofs.Common.{◌≡◌, ℕ, drop, length}
use Rattle.kept_files.proofs.kept_files.make_room.Given as goal

-- some of the oldest went
abbrev pub invariant-loop-kept : goal.invariant-loop-kept
invariant-loop-kept l = (gone : ℕ) × (l.kept.items ≡ drop gone l.fn.kept.items)

abbrev pub decreases-loop-kept : goal.decreases-loop-kept
decreases-loop-kept l = length l.kept.items

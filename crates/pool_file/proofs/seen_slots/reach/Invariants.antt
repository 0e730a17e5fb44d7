use Rattle.std.proofs.Common.{◌+◌, ◌-◌, length}
use Rattle.pool_file.specs.Slots.{KeepsSlots}
use Rattle.pool_file.proofs.seen_slots.reach.Given as goal

-- No slot came or went.
abbrev pub invariant-loop-seen : goal.invariant-loop-seen
invariant-loop-seen l = KeepsSlots l.fn.seen.items l.seen.items

-- How many places are missing.
abbrev pub decreases-loop-seen : goal.decreases-loop-seen
decreases-loop-seen l = l.number + 1 - length l.seen.items

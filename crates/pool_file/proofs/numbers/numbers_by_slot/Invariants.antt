use Rattle.std.proofs.Common.{◌≡◌, length}
use Rattle.pool_file.proofs.Numbered.{NumbersFirst}
use Rattle.pool_file.proofs.numbers.numbers_by_slot.Given as goal

-- The contents before the place of the loop have their numbers.
abbrev pub invariant-loop-place : goal.invariant-loop-place
invariant-loop-place l = (length l.numbers.items ≡ l.slots)
    × NumbersFirst l.contents l.numbers.items l.place

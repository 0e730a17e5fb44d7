use Rattle.std.proofs.Common.{ℕ, List, ◌++◌, drop}
use Rattle.pool_file_checks.specs.Held.{AreMarked}
use Rattle.pool_file_checks.proofs.HeldLemmas.{Marks}
use Rattle.pool_file_checks.proofs.held.mark_all.Given as goal

-- Those that are left are to be marked.
abbrev pub invariant-loop-number : goal.invariant-loop-number
invariant-loop-number l = (count : ℕ) (numbers : List ℕ) → AreMarked l.initial.flags count numbers
    → Marks l.flags count (drop l.number-index l.more) (numbers ++ l.more)

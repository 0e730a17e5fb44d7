use Rattle.std.proofs.Common.{◌≡◌, drop}
use Rattle.std.specs.List.{fold}
use Rattle.store_format.specs.Saying.{changed}
use Rattle.store_format.specs.Shown.{changes_of}
use Rattle.store_format.proofs.targets.Targets.change_all.Given as goal

-- The changes before the place of the loop are made.
abbrev pub invariant-loop-change : goal.invariant-loop-change
invariant-loop-change l =
    fold changed l.self (changes_of (drop l.change-index l.changes)) ≡ fold changed l.fn.self (changes_of l.changes)

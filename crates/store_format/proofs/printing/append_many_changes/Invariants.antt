use Rattle.std.proofs.Common.{◌≡◌, ◌++◌, take}
use Rattle.std.specs.List.{flat_map}
use Rattle.store_format.specs.Records.{change_text}
use Rattle.store_format.specs.Shown.{changes_of}
use Rattle.store_format.proofs.printing.append_many_changes.Given as goal

-- The texts before the place of the loop were appended.
abbrev pub invariant-loop-change : goal.invariant-loop-change
invariant-loop-change l = l.out.items ≡ l.fn.out.items ++ flat_map change_text (changes_of (take l.change-index l.changes))

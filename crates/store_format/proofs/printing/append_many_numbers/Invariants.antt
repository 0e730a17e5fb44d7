use Rattle.std.proofs.Common.{◌≡◌, ◌++◌, take}
use Rattle.std.specs.List.{flat_map}
use Rattle.store_format.specs.Records.{row_number_text}
use Rattle.store_format.proofs.printing.append_many_numbers.Given as goal

-- The texts before the place of the loop were appended.
abbrev pub invariant-loop-number : goal.invariant-loop-number
invariant-loop-number l = l.out.items ≡ l.fn.out.items ++ flat_map row_number_text (take l.number-index l.numbers)

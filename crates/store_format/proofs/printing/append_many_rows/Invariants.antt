use Rattle.std.proofs.Common.{◌≡◌, ◌++◌, take}
use Rattle.std.specs.List.{flat_map}
use Rattle.store_format.specs.Rows.{row_text}
use Rattle.store_format.specs.Shown.{rows_of}
use Rattle.store_format.proofs.printing.append_many_rows.Given as goal

-- The texts before the place of the loop were appended.
abbrev pub invariant-loop-row : goal.invariant-loop-row
invariant-loop-row l = l.out.items ≡ l.fn.out.items ++ flat_map row_text (rows_of (take l.row-index l.rows))

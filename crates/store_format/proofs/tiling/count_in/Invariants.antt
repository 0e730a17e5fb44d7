use Rattle.std.proofs.Common.{◌≡◌, ◌+◌, drop}
use Rattle.store_format.specs.Tiling.{count_in}
use Rattle.store_format.specs.Shown.{rows_of}
use Rattle.store_format.proofs.tiling.count_in.Given as goal

-- All rows before the place of the loop name the file.
abbrev pub invariant-loop-row : goal.invariant-loop-row
invariant-loop-row l = record {
  counted : l.count ≡ l.row-index;
  left : count_in l.number (rows_of l.rows) ≡ l.row-index + count_in l.number (rows_of (drop l.row-index l.rows));
}

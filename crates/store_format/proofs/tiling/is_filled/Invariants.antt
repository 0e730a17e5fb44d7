use Rattle.std.proofs.Common.{◌↔◌, drop}
use Rattle.store_format.specs.Tiling.{FillFrom}
use Rattle.store_format.specs.Shown.{contents_file_of, rows_of}
use Rattle.store_format.proofs.tiling.is_filled.Given as goal

-- All rows fill the file if those from the place of the loop on do, after the others.
abbrev pub invariant-loop-row : goal.invariant-loop-row
invariant-loop-row l =
    FillFrom (contents_file_of l.file) l.end (rows_of (drop l.row-index l.rows)) ↔ FillFrom (contents_file_of l.file) 0 (rows_of l.rows)

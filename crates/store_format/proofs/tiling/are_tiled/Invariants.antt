use Rattle.std.proofs.Common.{◌↔◌, drop}
use Rattle.store_format.specs.Tiling.{AreTiled}
use Rattle.store_format.specs.Shown.{contents_files_of, rows_of}
use Rattle.store_format.proofs.tiling.are_tiled.Given as goal

-- All files are filled if those from the place of the loop on are, by the rows that are left.
abbrev pub invariant-loop-file : goal.invariant-loop-file
invariant-loop-file l =
    AreTiled (contents_files_of (drop l.file-index l.files)) (rows_of l.left) ↔ AreTiled (contents_files_of l.files) (rows_of l.rows)

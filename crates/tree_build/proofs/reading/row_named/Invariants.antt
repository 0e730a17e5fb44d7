use Rattle.std.proofs.Common.{◌≡◌, drop}
use Rattle.git_objects.specs.Parts.{entries_of}
use Rattle.tree_build.specs.Standing.{row_named}
use Rattle.tree_build.proofs.reading.row_named.Given as goal

abbrev pub invariant-loop-row : goal.invariant-loop-row
invariant-loop-row l =
    row_named (entries_of (drop l.row-index l.rows)) l.name ≡ row_named (entries_of l.rows) l.name

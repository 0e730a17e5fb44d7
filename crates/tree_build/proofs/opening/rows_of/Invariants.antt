use Rattle.std.proofs.Common.{◌≡◌, map, take}
use Rattle.git_objects.specs.Parts.{entries_of}
use Rattle.tree_build.specs.Opened.{row_of, tree_row}
use Rattle.tree_build.proofs.opening.rows_of.Given as goal

abbrev pub invariant-loop-entry : goal.invariant-loop-entry
invariant-loop-entry l =
    map row_of l.rows.items ≡ map tree_row (entries_of (take l.entry-index l.entries))

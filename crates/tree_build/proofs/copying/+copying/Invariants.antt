use Rattle.std.proofs.Common.{◌≡◌, ◌+◌, ◌*◌, map, take}
use Rattle.tree_build.specs.Opened.{row_of}
use Rattle.tree_build.specs.Nodes.{held, shape_of}
use Rattle.tree_build.specs.ShapeCode.{shape_size}
use Rattle.tree_build.proofs.Copies.{copied_row}
use Rattle.tree_build.proofs.copying.+copying.Given as goal

abbrev pub decreases-copied : goal.decreases-copied
decreases-copied l = 3 * shape_size (held l.node.now).inside + 2

abbrev pub decreases-copied_dir : goal.decreases-copied_dir
decreases-copied_dir l = 3 * shape_size l.dir.now.entries + 1

abbrev pub decreases-copied_entries : goal.decreases-copied_entries
decreases-copied_entries l = 3 * shape_size (shape_of l.entries.now.items)

abbrev pub invariant-copied_entries-loop-place : goal.invariant-copied_entries-loop-place
invariant-copied_entries-loop-place l =
    map row_of l.copies.items ≡ map copied_row (take l.place l.entries.items)

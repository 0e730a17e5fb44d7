use Rattle.std.proofs.Common.{◌≡◌, ◌+◌, ◌*◌, length, drop}
use Rattle.file_maps.specs.StoredFiles.{stored_files}
use Rattle.tree_build.specs.Shape.{shape_files}
use Rattle.tree_build.specs.ShapeCode.{shape_size}
use Rattle.tree_build.specs.Nodes.{held, shape_of}
use Rattle.tree_build.proofs.counting.+counting.Given as goal

abbrev pub decreases-count : goal.decreases-count
decreases-count g l = 2 * shape_size (held l.node.now).inside + 1

abbrev pub decreases-count_all : goal.decreases-count_all
decreases-count_all g l = 2 * shape_size (shape_of l.entries.now.items)

abbrev pub invariant-count_all-loop-place : goal.invariant-count_all-loop-place
invariant-count_all-loop-place g l =
    l.files + length (shape_files (stored_files l.objects) (shape_of (drop l.place l.entries.items)))
    ≡ length (shape_files (stored_files l.objects) (shape_of l.entries.items))

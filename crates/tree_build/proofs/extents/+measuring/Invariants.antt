use Rattle.std.proofs.Common.{◌≡◌, ◌+◌, ◌*◌, drop}
use Rattle.tenant_tables.specs.Trees.{both}
use Rattle.file_maps.specs.Storable.{files_summary}
use Rattle.file_maps.specs.StoredFiles.{stored_files}
use Rattle.tree_build.specs.Shape.{shape_files}
use Rattle.tree_build.specs.ShapeCode.{shape_size}
use Rattle.tree_build.specs.Nodes.{held, shape_of}
use Rattle.tree_build.proofs.extents.+measuring.Given as goal

abbrev pub decreases-extent : goal.decreases-extent
decreases-extent g l = 4 * shape_size (held l.node.now).inside + 2

abbrev pub decreases-extent_under : goal.decreases-extent_under
decreases-extent_under g l = 4 * shape_size (held l.node.now).inside + 3

abbrev pub decreases-extent_of_dir : goal.decreases-extent_of_dir
decreases-extent_of_dir g l = 4 * shape_size l.dir.now.entries + 1

abbrev pub decreases-extent_of_all : goal.decreases-extent_of_all
decreases-extent_of_all g l = 4 * shape_size (shape_of l.entries.now.items)

abbrev pub invariant-extent_of_all-loop-place : goal.invariant-extent_of_all-loop-place
invariant-extent_of_all-loop-place g l =
    both l.sum (files_summary (shape_files (stored_files l.objects)
    (shape_of (drop l.place l.entries.items))))
    ≡ files_summary (shape_files (stored_files l.objects)
    (shape_of l.entries.items))

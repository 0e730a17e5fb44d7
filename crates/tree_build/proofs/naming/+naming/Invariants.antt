use Rattle.std.proofs.Common.{◌≡◌, ◌+◌, ◌*◌, map, take}
use Rattle.git_objects.specs.Parts.{entries_of}
use Rattle.file_maps.specs.StoredFiles.{stored_files}
use Rattle.file_maps.proofs.TreeOf.{entry_of}
use Rattle.tree_build.specs.Nodes.{held, shape_of}
use Rattle.tree_build.specs.ShapeCode.{shape_size}
use Rattle.tree_build.specs.Stores.{parts_of}
use Rattle.tree_build.proofs.naming.+naming.Given as goal

abbrev pub decreases-tree_of : goal.decreases-tree_of
decreases-tree_of g l = 4 * shape_size l.dir.now.entries + 3

abbrev pub decreases-tree_of_entries : goal.decreases-tree_of_entries
decreases-tree_of_entries g l = 4 * shape_size (shape_of l.entries.now.items) + 2

abbrev pub decreases-push_rows : goal.decreases-push_rows
decreases-push_rows g l = 4 * shape_size (shape_of l.entries.now.items) + 1

abbrev pub decreases-entry_here : goal.decreases-entry_here
decreases-entry_here g l = 4 * shape_size (held l.node.now).inside + 4

abbrev pub invariant-push_rows-loop-place : goal.invariant-push_rows-loop-place
invariant-push_rows-loop-place g l =
    entries_of l.rows.items ≡ map (entry_of g.N.Naming.digest_of) (parts_of (stored_files l.objects) (shape_of (take l.place l.entries.items)))

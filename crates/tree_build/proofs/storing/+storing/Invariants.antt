use Rattle.std.proofs.Common.{◌≡◌, ◌+◌, ◌*◌, take, None}
use Rattle.tenant_tables.specs.Objects.{objects}
use Rattle.file_maps.specs.Storing.{AddsTrees, trees_fault}
use Rattle.file_maps.specs.StoredFiles.{stored_files}
use Rattle.tree_build.specs.Branch.{IsShape}
use Rattle.tree_build.specs.Nodes.{held, shape_of}
use Rattle.tree_build.specs.ShapeCode.{shape_size}
use Rattle.tree_build.specs.Stores.{bare, parts_of, AreNamed, trees_of_parts}
use Rattle.tree_build.proofs.storing.+storing.Given as goal

abbrev pub decreases-store_dir : goal.decreases-store_dir
decreases-store_dir g l = 4 * shape_size l.dir.now.entries + 3

abbrev pub decreases-store_inside : goal.decreases-store_inside
decreases-store_inside g l = 4 * shape_size (shape_of l.entries.now.items) + 2

abbrev pub decreases-store_at : goal.decreases-store_at
decreases-store_at g l = 4 * shape_size (shape_of l.entries.now.items) + 1

abbrev pub decreases-store_node : goal.decreases-store_node
decreases-store_node g l = 4 * shape_size (held l.node.now).inside + 4

abbrev pub invariant-store_inside-loop-place : goal.invariant-store_inside-loop-place
invariant-store_inside-loop-place g l = record {
  same : bare (shape_of l.entries.items) ≡ bare (shape_of l.fn.entries.items);
  sound : IsShape (objects l.pool l.table.entries) (shape_of l.entries.items);
  adds : AddsTrees g.N.Naming.digest_of l.fn.pool l.fn.table l.pool l.table
      (trees_of_parts g.N.Naming.digest_of (take l.place (parts_of (stored_files (objects l.fn.pool l.fn.table.entries)) (shape_of l.fn.entries.items))));
  unrefused : trees_fault g.N.Naming.digest_of
      (trees_of_parts g.N.Naming.digest_of (take l.place (parts_of (stored_files (objects l.fn.pool l.fn.table.entries)) (shape_of l.fn.entries.items))))
      (objects l.fn.pool l.fn.table.entries) ≡ None;
  named : AreNamed (shape_of (take l.place l.entries.items));
}

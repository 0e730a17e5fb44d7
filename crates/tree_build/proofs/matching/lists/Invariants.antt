use Rattle.std.proofs.Common.{◌≡◌, ◌++◌, take}
use Rattle.std.specs.List.{AllByRecursion}
use Rattle.git_model.specs.ObjectName.{IsObjectName}
use Rattle.git_model.specs.Tree.{tree_contents}
use Rattle.tree_build.specs.Nodes.{shape_of}
use Rattle.tree_build.specs.Stores.{entries_of_shape}
use Rattle.tree_build.proofs.matching.lists.Given as goal

abbrev pub invariant-loop-place : goal.invariant-loop-place
invariant-loop-place l = record {
  read : l.contents ≡ tree_contents (entries_of_shape (shape_of (take l.place l.entries.items))) ++ l.rest;
  ids : AllByRecursion (λ e. IsObjectName e.id) (entries_of_shape (shape_of (take l.place l.entries.items)));
}

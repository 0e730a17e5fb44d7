use Rattle.std.proofs.Common.{◌≡◌, ◌++◌, take}
use Rattle.std.specs.List.{AllByRecursion}
use Rattle.git_model.specs.ObjectName.{IsObjectName}
use Rattle.git_model.specs.Tree.{tree_contents}
use Rattle.tree_build.specs.Nodes.{shape_of}
use Rattle.tree_build.specs.Stores.{entries_of_shape}
use Rattle.tree_build.proofs.writing.append_chunk.Given as goal

abbrev pub invariant-loop-entry : goal.invariant-loop-entry
invariant-loop-entry l = record {
  written : l.contents.items ≡ l.initial.contents.items ++ tree_contents (entries_of_shape (shape_of (take l.entry-index l.chunk)));
  ids : AllByRecursion (λ e. IsObjectName e.id) (entries_of_shape (shape_of (take l.entry-index l.chunk)));
}

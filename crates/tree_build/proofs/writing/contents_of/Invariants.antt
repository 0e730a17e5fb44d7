use Rattle.std.proofs.Common.{◌≡◌, take}
use Rattle.std.specs.List.{AllByRecursion}
use Rattle.git_model.specs.ObjectName.{IsObjectName}
use Rattle.git_model.specs.Tree.{tree_contents}
use Rattle.tree_build.specs.Chunks.{all}
use Rattle.tree_build.specs.Nodes.{shape_of}
use Rattle.tree_build.specs.Stores.{entries_of_shape}
use Rattle.tree_build.proofs.writing.contents_of.Given as goal

abbrev pub invariant-loop-chunk : goal.invariant-loop-chunk
invariant-loop-chunk l = record {
  written : l.contents.items ≡ tree_contents (entries_of_shape (shape_of (all (take l.chunk-index l.chunks))));
  ids : AllByRecursion (λ e. IsObjectName e.id) (entries_of_shape (shape_of (all (take l.chunk-index l.chunks))));
}

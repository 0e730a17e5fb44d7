-- The entries and the trees of groups of files.
use Rattle.std.specs.Prelude.{ℕ, List}
use Rattle.file_maps.specs.FileMap.{Listed}
use Rattle.git_model.specs.Tree.{TreeEntry}
use Rattle.file_maps.specs.Trees.{file_of, direct, entries_within, trees_within}
use Rattle.file_maps.specs.Trees.{unless_file, tree_name}

-- The entry of a group whose paths have at most so many components.
abbrev pub direct_of : (List ℕ → List ℕ) → ℕ → List ℕ × Listed → TreeEntry
direct_of digest deep g =
    direct g.0 (file_of g.1) (tree_name digest (entries_within digest deep g.1))

-- The trees of a group: none for a file, and for a directory those of what is below it.
abbrev pub group_trees : (List ℕ → List ℕ) → ℕ → List ℕ × Listed → List (List TreeEntry)
group_trees digest deep g = unless_file (file_of g.1) (trees_within digest deep g.1)

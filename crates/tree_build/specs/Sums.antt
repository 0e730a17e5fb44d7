-- Summaries within the limits of a branch, and sums of them.
use Rattle.std.specs.Prelude.{ℕ, ◌≤◌, List, fold, map}
use Rattle.git_model.specs.Limits.{files_limit, path_bytes_limit, path_components_limit}
use Rattle.tenant_tables.specs.declared.summary.Summary.{Summary}
use Rattle.tenant_tables.specs.Trees.{both, entry_summary}
use Rattle.tenant_tables.specs.View.{Entries}
use Rattle.tree_build.specs.declared.dir.Node.{Node}
use Rattle.tree_build.specs.Nodes.{shape_of}
use Rattle.tree_build.specs.Stores.{entries_of_shape}

pub record IsSmall (s : Summary) : Type 0 where
  pub files : s.files ≤ files_limit
  pub depth : s.depth ≤ path_components_limit
  pub longest : s.longest ≤ path_bytes_limit

-- The sum of a summary and of those of entries of a directory.
abbrev pub sum_with : Entries → Summary → List (List ℕ × Node) → Summary
sum_with table before es =
    fold both before (map (entry_summary table) (entries_of_shape (shape_of es)))

-- Groups of files of which trees can be stored.
use Rattle.std.specs.Prelude.{◌≡◌, ℕ, ◌≤◌, List, Some, None}
use Rattle.file_maps.specs.FileMap.{Listed}
use Rattle.tenant_tables.specs.View.{Entries, summary_of}
use Rattle.file_maps.specs.Trees.{depth_of, file_of, tree_name, entries_within}
use Rattle.file_maps.specs.Storable.{AreStorable, files_summary}

-- A group is storable where it is a file, or a directory of storable files with at most so many
-- components.
abbrev pub IsStorableGroup : ℕ → List ℕ × Listed → Type 0
IsStorableGroup deep g = file_of g.1 ≡ None → AreStorable g.1 × (depth_of g.1 ≤ deep)

-- The tree of a group that is a directory stands in a table, with the summary of its files.
abbrev pub IsKnownGroup : (List ℕ → List ℕ) → ℕ → Entries → List ℕ × Listed → Type 0
IsKnownGroup digest deep table g =
    file_of g.1 ≡ None
    → summary_of (tree_name digest (entries_within digest deep g.1)) table
    ≡ Some (files_summary g.1)

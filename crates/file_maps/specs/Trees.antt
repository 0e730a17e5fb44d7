-- The trees that files make: "tree object" in gitglossary(7), and git-write-tree(1).
-- `IsTreeByComponent` of ByComponent says what the tree of a path lists: each name once, in Git's
-- order. The law `laws::trees_by_component` says that `tree_entries` is that tree.
use Rattle.std.specs.Prelude.{ℕ, zero, suc, Bool, ◌&&◌, not, max, length, List, [], ◌∷◌, ◌++◌, map}
use Rattle.std.specs.Prelude.{Option, Some, None, if◌then◌else◌}
use Rattle.std.specs.List.{flat_map}
use Rattle.std.specs.Str.{bytes_eq}
use Rattle.git_model.specs.declared.kind.Kind.TheVariants as kind
use Rattle.git_model.specs.declared.file_mode.FileMode.TheVariants as mode
use Rattle.git_model.specs.Content.{Content, content_from, name_by}
use Rattle.git_model.specs.Tree.{TreeEntry, tree_contents}
use Rattle.file_maps.specs.declared.entry.Entry.{Entry}
use Rattle.file_maps.specs.FileMap.{Path, Listed, FileMap}
use Rattle.file_maps.specs.Edits.{files_at, is_root, is_empty}

-- ---- files by their first components

-- For each first component the files below it, with that component cut off.
abbrev pub Groups : Type 0
Groups = List (List ℕ × Listed)

-- One file more in front: it joins the first group, where that has its first component.
abbrev pub add_file : List ℕ → Path × Entry → Groups → Groups
add_file c f [] = (c, f ∷ []) ∷ []
add_file c f (g ∷ groups) =
    if bytes_eq c g.0 then (c, f ∷ g.1) ∷ groups else (c, f ∷ []) ∷ g ∷ groups

abbrev pub add_path : Path → Entry → Groups → Groups
add_path [] e groups = groups
add_path (c ∷ rest) e groups = add_file c (rest, e) groups

-- Neighbours with the same first component make a group. In the order of whole paths these are all
-- files with that component.
abbrev pub grouped : Listed → Groups
grouped [] = []
grouped (f ∷ files) = add_path f.0 f.1 (grouped files)

-- ---- trees

-- A group is a file where nothing is left of its first path. Every other group is a directory.
abbrev pub file_at : Path → Entry → Option Entry
file_at [] e = Some e
file_at (c ∷ rest) e = None

abbrev pub file_of : Listed → Option Entry
file_of [] = None
file_of (f ∷ files) = file_at f.0 f.1

-- The entry of a file, or of a directory by the name of its tree.
abbrev pub direct : List ℕ → Option Entry → List ℕ → TreeEntry
direct c (Some e) id = record { mode = e.mode; name = c; id = e.name }
direct c None id = record { mode = mode.Directory; name = c; id = id }

abbrev pub tree_content : List TreeEntry → Content
tree_content es = content_from kind.Tree (tree_contents es)

abbrev pub tree_name : (List ℕ → List ℕ) → List TreeEntry → List ℕ
tree_name digest es = name_by digest (tree_content es)

-- The direct entries of files with at most so many components: for each first component its file,
-- or a directory with the name of the tree of the files below it.
unfoldable pub entries_within : (List ℕ → List ℕ) → ℕ → Listed → List TreeEntry
entries_within digest zero files = []
entries_within digest (suc deep) files =
    map (λ g. direct g.0 (file_of g.1) (tree_name digest (entries_within digest deep g.1)))
    (grouped files)

-- The most components of a path.
abbrev pub depth_of : Listed → ℕ
depth_of [] = 0
depth_of (f ∷ files) = max (length f.0) (depth_of files)

-- The direct entries of the tree of files, and its name.
abbrev pub tree_entries : (List ℕ → List ℕ) → Listed → List TreeEntry
tree_entries digest files = entries_within digest (depth_of files) files

abbrev pub tree_id : (List ℕ → List ℕ) → Listed → List ℕ
tree_id digest files = tree_name digest (tree_entries digest files)

-- ---- what stands at a path

abbrev pub directory : (List ℕ → List ℕ) → Listed → Entry
directory digest files = record { mode = mode.Directory; name = tree_id digest files }

abbrev pub entry_or : (List ℕ → List ℕ) → Bool → Listed → Option Entry → Option Entry
entry_or digest root files (Some e) = Some e
entry_or digest root files None =
    if is_empty files && not root then None else Some (directory digest files)

-- The file at a path, or a directory where files are below it. The root is a directory without
-- files too.
abbrev pub entry_at : (List ℕ → List ℕ) → FileMap → Path → Option Entry
entry_at digest m path =
    entry_or digest (is_root path) (files_at m path) (file_of (files_at m path))

-- ---- nested trees

abbrev pub unless_file : {A : Type 0} → Option Entry → List A → List A
unless_file (Some e) trees = []
unless_file None trees = trees

-- The trees of files with at most so many components, children first and in the order of their
-- entries, the tree of all files last.
unfoldable pub trees_within : (List ℕ → List ℕ) → ℕ → Listed → List (List TreeEntry)
trees_within digest zero files = [] ∷ []
trees_within digest (suc deep) files =
    flat_map (λ g. unless_file (file_of g.1) (trees_within digest deep g.1)) (grouped files)
    ++ entries_within digest (suc deep) files ∷ []

abbrev pub nested_trees : (List ℕ → List ℕ) → Listed → List (List TreeEntry)
nested_trees digest files = trees_within digest (depth_of files) files

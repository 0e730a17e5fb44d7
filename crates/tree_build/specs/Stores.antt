-- What storing changes in an opened directory, and which trees it stores.
use Rattle.std.specs.Prelude.{ℕ, List, [], ◌∷◌, Option, Some, None}
use Rattle.git_model.specs.declared.file_mode.FileMode.TheVariants as mode
use Rattle.git_model.specs.Tree.{TreeEntry}
use Rattle.std.specs.List.{flat_map}
use Rattle.file_maps.specs.FileMap.{Listed}
use Rattle.file_maps.specs.Trees.{Groups, file_of, unless_file, nested_trees}
use Rattle.tree_build.specs.Shape.{What, file, unopened, opened, Shape, none, row, Held, Known, what_files, shape_files}

-- ---- the same but for the names of trees

-- What is held, without the names of stored trees in opened directories.
abbrev pub unnamed : What → What
unnamed (file e) = file e
unnamed (unopened id) = unopened id
unnamed (opened tree) = opened None

abbrev pub bare : Shape → Shape
bare none = none
bare (row c what inside rest) = row c (unnamed what) (bare inside) (bare rest)

abbrev pub bare_held : Held → Held
bare_held h = record { what = unnamed h.what; inside = bare h.inside }

-- ---- direct entries

-- The files of each direct entry, with its name.
abbrev pub parts_of : Known → Shape → Groups
parts_of known none = []
parts_of known (row c what inside rest) =
    (c, what_files known what (shape_files known inside)) ∷ parts_of known rest

-- An entry as a tree lists it, if the tree of a directory has a name.
abbrev pub entry_by_name : List ℕ → Option (List ℕ) → TreeEntry
entry_by_name c None = record { mode = mode.Directory; name = c; id = [] }
entry_by_name c (Some id) = record { mode = mode.Directory; name = c; id = id }

abbrev pub entry_of_what : List ℕ → What → TreeEntry
entry_of_what c (file e) = record { mode = e.mode; name = c; id = e.name }
entry_of_what c (unopened id) = record { mode = mode.Directory; name = c; id = id }
entry_of_what c (opened tree) = entry_by_name c tree

abbrev pub entries_of_shape : Shape → List TreeEntry
entries_of_shape none = []
entries_of_shape (row c what inside rest) = entry_of_what c what ∷ entries_of_shape rest

-- A directory has the name of its tree.
abbrev pub IsNamed : What → Type 0
IsNamed (file e) = Unit {0}
IsNamed (unopened id) = Unit {0}
IsNamed (opened None) = ⊥
IsNamed (opened (Some id)) = Unit {0}

abbrev pub AreNamed : Shape → Type 0
AreNamed none = Unit {0}
AreNamed (row c what inside rest) = IsNamed what × AreNamed rest

-- ---- trees

-- The trees of the files of an entry: none for a file, else its tree and those below it.
abbrev pub trees_below : (List ℕ → List ℕ) → Listed → List (List TreeEntry)
trees_below digest files = unless_file (file_of files) (nested_trees digest files)

abbrev pub trees_of_parts : (List ℕ → List ℕ) → Groups → List (List TreeEntry)
trees_of_parts digest parts = flat_map (λ g. trees_below digest g.1) parts

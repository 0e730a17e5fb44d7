-- What is at a path below a directory, for private contracts.
use Rattle.std.specs.Prelude.{◌≡◌, ℕ, false, List, [], ◌∷◌, Option, None, Some, if◌then◌else◌}
use Rattle.std.specs.Option.{option_map}
use Rattle.std.specs.Str.{bytes_eq}
use Rattle.git_model.specs.Tree.{TreeEntry}
use Rattle.git_model.specs.Repository.{Object}
use Rattle.file_maps.specs.declared.entry.Entry.{Entry}
use Rattle.file_maps.specs.FileMap.{Path, Listed}
use Rattle.file_maps.specs.ByComponent.{what}
use Rattle.file_maps.specs.Edits.{cut}
use Rattle.file_maps.specs.StoredTree.{HasTree}
use Rattle.file_maps.specs.Trees.{file_of, entry_or}
use Rattle.tree_build.specs.Rows.{IsPart}

-- The file at a path, or a directory if there are files below the path.
abbrev pub stands_at : (List ℕ → List ℕ) → Listed → Path → Option Entry
stands_at digest files path = entry_or digest false (cut path files) (file_of (cut path files))

-- The entry of a name among those of a tree.
abbrev pub row_named : List TreeEntry → List ℕ → Option TreeEntry
row_named [] c = None
row_named (e ∷ es) c = if bytes_eq e.name c then Some e else row_named es c

-- The entry `name` of the stored tree `id`, if it has one.
pub record HasEntry (os : List Object) (id name : List ℕ) (o : Option Entry) : Type 0 where
  pub rows : List TreeEntry
  pub tree : HasTree os id rows
  pub row : o ≡ option_map what (row_named rows name)

-- What was found at a path of a stored tree has these files.
abbrev pub IsFoundAt : List Object → Option Entry → Listed → Type 0
IsFoundAt os None files = files ≡ []
IsFoundAt os (Some e) files =
    IsPart os (record { mode = e.mode; name = []; id = e.name }) ([], files)

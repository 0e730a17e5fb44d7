-- Files below a directory as the code holds them, and how a group is found among them.
use Rattle.std.specs.Prelude.{◌≡◌, ℕ, ◌<◌, ◌≤◌, Bool, true, List, [], ◌∷◌, length, drop, map}
use Rattle.std.specs.Prelude.{Option, Some, None}
use Rattle.std.specs.Str.{bytes_eq}
use Rattle.plain_files.specs.declared.below.Below.{Below}
use Rattle.plain_files.specs.declared.below.Group.{Group}
use Rattle.file_maps.specs.declared.entry.Entry.{Entry}
use Rattle.file_maps.specs.FileMap.{Path, Listed}
use Rattle.git_model.specs.declared.file_mode.FileMode.TheVariants as mode
use Rattle.git_model.specs.Tree.{TreeEntry}
use Rattle.file_maps.specs.Trees.{Groups, grouped, file_of, entries_within, tree_name}

abbrev pub file_below : Below → Path × Entry
file_below b = (b.path, b.entry)

abbrev pub files_below : List Below → Listed
files_below bs = map file_below bs

abbrev pub group_of : Group → List ℕ × Listed
group_of g = (g.name.now, files_below g.below.items)

abbrev pub groups_of : List Group → Groups
groups_of gs = map group_of gs

-- The first component of a path and what is after it.
abbrev pub split_path : Path → Entry → Option (List ℕ × (Path × Entry))
split_path [] e = None
split_path (c ∷ rest) e = Some (c, (rest, e))

abbrev pub split_first : Path × Entry → Option (List ℕ × (Path × Entry))
split_first f = split_path f.0 f.1

-- The first component of the first file that has one.
abbrev pub name_or : Path → Option (List ℕ) → Option (List ℕ)
name_or [] later = later
name_or (c ∷ rest) later = Some c

abbrev pub next_name : Listed → Option (List ℕ)
next_name [] = None
next_name (f ∷ files) = name_or f.0 (next_name files)

-- Whether a path does not begin with another component.
abbrev pub goes_with : List ℕ → Path → Bool
goes_with c [] = true
goes_with c (d ∷ rest) = bytes_eq c d

-- The first group of some files covers so many of them, at least one.
pub record IsNextGroup (files : List Below) (group : List ℕ × Listed) (length_of_run : ℕ)
    : Type 0 where
  pub some : 0 < length_of_run
  pub within : length_of_run ≤ length files
  pub first : grouped (files_below files) ≡ group ∷ grouped (files_below (drop length_of_run files))

abbrev pub by_kind : List ℕ → Option Entry → List ℕ → TreeEntry
by_kind c (Some e) id = record { mode = e.mode; name = c; id = id }
by_kind c None id = record { mode = mode.Directory; name = c; id = id }

-- The entry of a group with the name of its object.
abbrev pub entry_by : List ℕ × Listed → List ℕ → TreeEntry
entry_by g id = by_kind g.0 (file_of g.1) id

-- The object name of a group: of its file, or of the tree of what is below it.
abbrev pub id_by : Option Entry → List ℕ → List ℕ
id_by (Some e) id = e.name
id_by None id = id

abbrev pub id_of : (List ℕ → List ℕ) → ℕ → List ℕ × Listed → List ℕ
id_of digest deep g = id_by (file_of g.1) (tree_name digest (entries_within digest deep g.1))

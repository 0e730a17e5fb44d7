-- Branches among the objects of a table.
use Rattle.std.specs.Prelude.{◌≡◌, ◌≢◌, ℕ, ◌+◌, ◌≤◌, List, [], ◌∷◌, ◌++◌, length, codes, Option, Some, None, if◌then◌else◌}
use Rattle.std.specs.FinMap as finmap
use Rattle.std.specs.Cmp.Lexicographic.{slice_cmp}
use Rattle.std.specs.Ordering.{nat_cmp}
use Rattle.std.specs.Str.{bytes_eq}
use Rattle.std.specs.declared.cmp.Ordering.TheVariants.{Less}
use Rattle.git_model.specs.declared.file_mode.FileMode.TheVariants as mode
use Rattle.git_model.specs.ObjectName.{IsObjectName}
use Rattle.git_model.specs.Repository.{Object}
use Rattle.git_model.specs.Tree.{IsEntryName}
use Rattle.file_maps.specs.FileMap.{Path, Listed, FileMap, AreFiles, listed}
use Rattle.file_maps.specs.Edits.{with_files}
use Rattle.file_maps.specs.StoredFiles.{stored_files}
use Rattle.file_maps.specs.PlainTrees.{ListsPlain}
use Rattle.tree_build.specs.Shape.{What, file, unopened, opened, Shape, none, row, Held, what_files, shape_files, held_files}

-- What is held at the root, the number of its files, and how many trees were read.
pub record Branch : Type 0 where
  pub root : Held
  pub files : ℕ
  pub reads : ℕ

-- The files of a branch by their paths. An unopened directory has the files that its stored tree
-- lists.
abbrev pub root_files : List Object → Branch → Listed
root_files os b = held_files (stored_files os) b.root

unfoldable pub files_in : List Object → Branch → FileMap
files_in os b = with_files finmap.empty (root_files os b)

-- ---- what is true of every branch

-- Git compares the name of a directory with a slash at its end.
abbrev pub slash_after : What → List ℕ
slash_after (file e) = []
slash_after (unopened id) = codes "/"
slash_after (opened tree) = codes "/"

abbrev pub key_of : List ℕ → What → List ℕ
key_of c what = c ++ slash_after what

-- An entry comes before another in Git's order of a tree, and has another name.
pub record IsNodeBefore (c : List ℕ) (what : What) (d : List ℕ) (other : What) : Type 0 where
  pub names : c ≢ d
  pub order : slice_cmp nat_cmp (key_of c what) (key_of d other) ≡ Less

-- An entry comes before each of a row, and has another name.
abbrev pub IsBeforeAll : List ℕ → What → Shape → Type 0
IsBeforeAll c what none = Unit {0}
IsBeforeAll c what (row d other inside rest) =
    IsNodeBefore c what d other × IsBeforeAll c what rest

-- What is held is a file with the name of its object; a stored tree; or an opened directory. If an
-- opened directory has the name of a stored tree, it has the files that this tree lists.
abbrev pub IsWhat : List Object → What → Listed → Type 0
IsWhat os (file e) inside = (e.mode ≢ mode.Directory) × IsObjectName e.name
IsWhat os (unopened id) inside = ListsPlain os id (stored_files os id)
IsWhat os (opened None) inside = Unit {0}
IsWhat os (opened (Some id)) inside = ListsPlain os id inside

-- A direct entry has a name that Git allows, and no directory below the root is empty.
pub record IsRow (os : List Object) (c : List ℕ) (what : What) (inside : Listed) : Type 0 where
  pub name : IsEntryName c
  pub sound : IsWhat os what inside
  pub some : what_files (stored_files os) what inside ≢ []

-- The direct entries of a directory: distinct names in Git's order.
abbrev pub IsShape : List Object → Shape → Type 0
IsShape os none = Unit {0}
IsShape os (row c what inside rest) =
    IsRow os c what (shape_files (stored_files os) inside) × IsBeforeAll c what rest
    × IsShape os inside × IsShape os rest

abbrev pub IsHeld : List Object → Held → Type 0
IsHeld os h = IsWhat os h.what (shape_files (stored_files os) h.inside) × IsShape os h.inside

abbrev pub IsDirectory : What → Type 0
IsDirectory (file e) = ⊥
IsDirectory (unopened id) = Unit {0}
IsDirectory (opened tree) = Unit {0}

-- A branch stands among the objects if each tree that it names is one of them, and if its files can
-- be those of a branch.
pub record IsBranch (os : List Object) (b : Branch) : Type 0 where
  pub directory : IsDirectory b.root.what
  pub held : IsHeld os b.root
  pub counted : b.files ≡ length (root_files os b)
  pub files : AreFiles (listed (files_in os b))

-- The name of the stored tree that the root is, if it is known without reading a tree.
abbrev pub known_tree : What → Option (List ℕ)
known_tree (file e) = None
known_tree (unopened id) = Some id
known_tree (opened tree) = tree

abbrev pub root_name : Branch → Option (List ℕ)
root_name b = known_tree b.root.what

-- ---- trees that are read

-- How many trees a walk along a path reads at most. Opened directories need no read; from an
-- unopened directory on, each component that is left needs one.
abbrev pub closed_by : What → ℕ → ℕ → ℕ
closed_by (file e) inside left = 0
closed_by (unopened id) inside left = left
closed_by (opened tree) inside left = inside

abbrev pub closed_along : Shape → Path → ℕ
closed_along none path = 0
closed_along (row c what inside rest) [] = 0
closed_along (row c what inside rest) (d ∷ path) =
    if bytes_eq c d then closed_by what (closed_along inside path) (length path)
    else closed_along rest (d ∷ path)

abbrev pub closed_from : Held → Path → ℕ
closed_from h path = closed_by h.what (closed_along h.inside path) (length path)

-- A call has counted at most `most` trees.
pub record CountsAtMost (old new : Branch) (most : ℕ) : Type 0 where
  pub counted : old.reads ≤ new.reads
  pub bounded : new.reads ≤ old.reads + most

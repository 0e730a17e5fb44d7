-- Opening a directory, for private contracts.
use Rattle.std.specs.Prelude.{◌≡◌, ℕ, ◌+◌, ◌≤◌, Bool, nat_le, if◌then◌else◌, List, [], ◌∷◌, length, Option, None, Some}
use Rattle.git_model.specs.declared.file_mode.FileMode.{FileMode}
use Rattle.git_model.specs.declared.file_mode.FileMode.TheVariants as mode
use Rattle.git_model.specs.Limits.{files_limit}
use Rattle.git_model.specs.Repository.{Object}
use Rattle.git_model.specs.Tree.{TreeEntry}
use Rattle.tenant_tables.specs.declared.summary.Summary.{Summary}
use Rattle.file_maps.specs.declared.entry.Entry.{Entry}
use Rattle.file_maps.specs.declared.fault.Fault.{Fault}
use Rattle.file_maps.specs.declared.fault.Fault.TheVariants as fault
use Rattle.file_maps.specs.FileMap.{Path, is_apart}
use Rattle.file_maps.specs.Edits.{is_outside}
use Rattle.file_maps.specs.StoredFiles.{stored_files}
use Rattle.tree_build.specs.declared.dir.Node.{Node}
use Rattle.tree_build.specs.Shape.{What, file, unopened, Shape, none, Held, Directory, shape_files, held_files}
use Rattle.tree_build.specs.Branch.{Branch, root_files, slash_after, IsShape, IsHeld, closed_along, closed_from}
use Rattle.tree_build.specs.Nodes.{held, with_row}

abbrev pub what_by : FileMode → List ℕ → Entry → What
what_by mode.Directory id e = unopened id
what_by mode.Regular id e = file e
what_by mode.Executable id e = file e
what_by mode.Symlink id e = file e
what_by mode.Gitlink id e = file e

-- What is held at an entry of a stored tree when the tree is opened.
abbrev pub entry_held : TreeEntry → Held
entry_held e = record {
  what = what_by e.mode e.id (record { mode = e.mode; name = e.id });
  inside = none;
}

-- The direct entries of the tree in a row.
abbrev pub tree_shape : List TreeEntry → Shape
tree_shape [] = none
tree_shape (e ∷ es) = with_row e.name (entry_held e) (tree_shape es)

-- Entries with their names, as in a row.
abbrev pub row_of : List ℕ × Node → List ℕ × Held
row_of e = (e.0, held e.1)

abbrev pub tree_row : TreeEntry → List ℕ × Held
tree_row e = (e.name, entry_held e)

-- An opened directory has the name and the files of its stored tree.
pub record IsOpening (os : List Object) (id : List ℕ) (d : Directory) : Type 0 where
  pub tree : d.tree ≡ Some id
  pub sound : IsShape os d.entries
  pub files : shape_files (stored_files os) d.entries ≡ stored_files os id

-- What is held was opened along a path, and has the same files.
pub record OpensHeld (os : List Object) (path : Path) (old new : Held) : Type 0 where
  pub sound : IsHeld os new
  pub order : slash_after new.what ≡ slash_after old.what
  pub files : held_files (stored_files os) new ≡ held_files (stored_files os) old
  pub shut : closed_from new path ≡ 0
  pub stays : (q : Path) → closed_from new q ≤ closed_from old q

pub record OpensAlong (os : List Object) (path : Path) (old new : Directory) : Type 0 where
  pub tree : new.tree ≡ old.tree
  pub sound : IsShape os new.entries
  pub files : shape_files (stored_files os) new.entries ≡ shape_files (stored_files os) old.entries
  pub shut : closed_along new.entries path ≡ 0
  pub stays : (q : Path) → closed_along new.entries q ≤ closed_along old.entries q

-- A branch with its number of files corrected.
abbrev pub recounted : List Object → Branch → Branch
recounted os b =
    record { root = b.root; files = length (root_files os b); reads = b.reads }

-- At most `most` trees were counted.
pub record ReadsMore (old new most : ℕ) : Type 0 where
  pub counted : old ≤ new
  pub bounded : new ≤ old + most

-- The number of files in a summary, 0 if there is none.
abbrev pub files_of : Option Summary → ℕ
files_of None = 0
files_of (Some s) = s.files

-- Whether a file at `q` stays if what is at or below `p` is taken out and, if `clear`, also a file
-- at a prefix of `p`.
abbrev pub is_kept : Bool → Path → Path → Bool
is_kept clear p q = if clear then is_apart p q else is_outside p q

-- The fault if a branch would have too many files.
abbrev pub too_many : ℕ → Option Fault
too_many n = if nat_le n files_limit then None else Some fault.Limit

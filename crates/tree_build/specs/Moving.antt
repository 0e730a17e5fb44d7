-- What copies and renames move, for private contracts.
use Rattle.std.specs.Prelude.{◌≡◌, ◌≢◌, ◌≤◌, ℕ, ◌+◌, Bool, false, not, ◌&&◌, ◌==◌, nat_le, List, [], ◌∷◌, length, zero, suc, Option, None, Some, if◌then◌else◌}
use Rattle.std.specs.List.{list_any, list_all}
use Rattle.git_model.specs.Limits.{path_bytes_limit, path_components_limit}
use Rattle.git_model.specs.Repository.{Object}
use Rattle.git_paths.specs.Paths.{joined, is_within_limits}
use Rattle.tenant_tables.specs.declared.summary.Summary.{Summary}
use Rattle.file_maps.specs.declared.fault.Fault.{Fault}
use Rattle.file_maps.specs.declared.fault.Fault.TheVariants as fault
use Rattle.file_maps.specs.FileMap.{Path, Listed}
use Rattle.file_maps.specs.Edits.{is_root, is_empty}
use Rattle.file_maps.specs.StoredFiles.{stored_files}
use Rattle.tree_build.specs.Shape.{What, file, unopened, opened, Shape, none, row, Held, Known, held_files}
use Rattle.tree_build.specs.Branch.{IsHeld}
use Rattle.tree_build.specs.Editing.{child, is_none, new_directory, entries_in, dropped}

-- ---- what stands at a path

-- What is at a path below something, if the directories on the way are opened.
abbrev pub standing : Path → Option Held → Option Held
standing [] o = o
standing (c ∷ path) o = standing path (child (entries_in o) c)

-- Its files; none if there is nothing.
abbrev pub files_of_held : Known → Option Held → Listed
files_of_held known None = []
files_of_held known (Some h) = held_files known h

-- What is left after what is at a path was taken out; at the root, a directory without entries.
abbrev pub rest_by : Path → What → Held → Held
rest_by path (file e) h = h
rest_by path (unopened id) h = h
rest_by path (opened tree) h = new_directory (dropped false path h.inside)

abbrev pub rest_of : Path → Held → Held
rest_of [] h = new_directory none
rest_of (c ∷ path) h = rest_by (c ∷ path) h.what h

-- ---- a copy

-- An opened directory that still is a stored tree is copied by the name of that tree. What was
-- opened inside it is not copied.
abbrev pub copied_what : What → What
copied_what (file e) = file e
copied_what (unopened id) = unopened id
copied_what (opened None) = opened None
copied_what (opened (Some id)) = unopened id

abbrev pub copied_inside : What → Shape → Shape
copied_inside (file e) inside = none
copied_inside (unopened id) inside = none
copied_inside (opened None) inside = inside
copied_inside (opened (Some id)) inside = none

abbrev pub copied_shape : Shape → Shape
copied_shape none = none
copied_shape (row c what inside rest) =
    row c (copied_what what) (copied_inside what (copied_shape inside)) (copied_shape rest)

abbrev pub copied_held : Held → Held
copied_held h = record {
  what = copied_what h.what;
  inside = copied_inside h.what (copied_shape h.inside);
}

-- What was copied stands among the objects and has these files. `many` is their number.
pub record IsMoved (os : List Object) (fs : Listed) (h : Held) (many : ℕ) : Type 0 where
  pub held : IsHeld os h
  pub files : held_files (stored_files os) h ≡ fs
  pub count : many ≡ length fs

-- ---- limits

-- `to` has at most as many bytes and components as `from`, and neither is the root.
pub record IsNoLonger (to from : Path) : Type 0 where
  pub to_some : to ≢ []
  pub from_some : from ≢ []
  pub bytes : length (joined to) ≤ length (joined from)
  pub components : length to ≤ length from

-- Whether what is held is an opened directory with at least one entry.
abbrev pub has_entries_by : What → Shape → Bool
has_entries_by (file e) inside = false
has_entries_by (unopened id) inside = false
has_entries_by (opened tree) inside = not (is_none inside)

abbrev pub has_entries : Held → Bool
has_entries h = has_entries_by h.what h.inside

-- The number of slashes between a path and another below it: one, or none if either is the root.
abbrev pub slash_between : Path → ℕ → ℕ
slash_between [] depth = 0
slash_between (c ∷ path) zero = 0
slash_between (c ∷ path) (suc depth) = 1

-- Whether no path would be too long if files with this summary were put below a path.
abbrev pub fits_below : Path → Summary → Bool
fits_below path s =
    nat_le (length (joined path) + slash_between path s.depth + s.longest) path_bytes_limit
    && nat_le (length path + s.depth) path_components_limit

-- Why files cannot be moved to a path, by their summary: there are none, one would be at the root,
-- or a path would be too long.
abbrev pub summary_fault : Path → Summary → Option Fault
summary_fault path s =
    if s.files == 0 then Some fault.SourceMissing
    else if is_root path && s.depth == 0 then Some fault.RootNotDirectory
    else if fits_below path s then None else Some fault.Limit

-- The same, by the paths that they would have.
abbrev pub path_fault : Listed → Option Fault
path_fault files =
    if is_empty files then Some fault.SourceMissing
    else if list_any (λ f. is_root f.0) files then Some fault.RootNotDirectory
    else if list_all (λ f. is_within_limits f.0) files then None else Some fault.Limit

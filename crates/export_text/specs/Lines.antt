-- The lines of a directory's files, by its tree and the prefix of its entries' paths, for private
-- contracts.
use Rattle.std.specs.Prelude.{◌≡◌, ℕ, zero, suc, ◌≤◌, List, [], ◌∷◌, ◌++◌, length, slice_range, All, codes}
use Rattle.std.specs.List.{flat_map}
use Rattle.git_model.specs.declared.file_mode.FileMode.{FileMode}
use Rattle.git_model.specs.declared.file_mode.FileMode.TheVariants as mode
use Rattle.git_model.specs.GoodRepository.{AreObjects}
use Rattle.git_model.specs.Modes.{six_digits}
use Rattle.git_model.specs.Repository.{Object}
use Rattle.git_model.specs.StoredPath.{entries_of}
use Rattle.git_model.specs.Tree.{TreeEntry}
use Rattle.git_paths.specs.Quoting.{quoted}
use Rattle.stream_lex.specs.Items.{Line}
use Rattle.export_text.specs.declared.told.Directory.{Directory}
use Rattle.export_text.specs.declared.told.Directories.{Directories}
use Rattle.export_text.specs.ItemText.{items_text}
use Rattle.export_text.specs.ExportItems.{dataref_text}

-- The prefix of the entries of the directory of this name, below the entries of a prefix.
abbrev pub prefix_below : List ℕ → List ℕ → List ℕ
prefix_below prefix name = prefix ++ name ++ 47 ∷ []

abbrev pub file_line : List Object → List ℕ → TreeEntry → List ℕ
file_line os prefix e = items_text (Line (codes "M " ++ six_digits e.mode ++ codes " "
    ++ dataref_text os e.mode e.id ++ codes " " ++ quoted (prefix ++ e.name)) ∷ [])

-- The lines of an entry: for a directory those of what is below it, and for every other entry its
-- own.
abbrev pub lines_by : List Object → FileMode → List ℕ → TreeEntry → List ℕ → List ℕ
lines_by os mode.Directory prefix e below = below
lines_by os mode.Regular prefix e below = file_line os prefix e
lines_by os mode.Executable prefix e below = file_line os prefix e
lines_by os mode.Symlink prefix e below = file_line os prefix e
lines_by os mode.Gitlink prefix e below = file_line os prefix e

-- The lines of the tree of a name, at most so many levels deep.
unfoldable pub lines_within : List Object → ℕ → List ℕ → List ℕ → List ℕ
lines_within os zero prefix tree = []
lines_within os (suc levels) prefix tree =
    flat_map (λ e. lines_by os e.mode prefix e
    (lines_within os levels (prefix_below prefix e.name) e.id))
    (entries_of os tree)

-- ---- directories whose lines were written

pub record IsTold (os : List Object) (out : List ℕ) (d : Directory) : Type 0 where
  pub forward : d.lines.start ≤ d.lines.end
  pub within : d.lines.end ≤ length out
  pub lines : slice_range out d.lines.start d.lines.end
      ≡ lines_within os d.levels d.prefix.items d.tree

abbrev pub AreTold : List Object → List ℕ → Directories → Type 0
AreTold os out told = All (IsTold os out) told.directories.items

-- What is claimed where the objects are good and the lines of these directories stand in the text.
abbrev pub WhereTold : (List ℕ → List ℕ) → List Object → List ℕ → Directories → Type 0 → Type 0
WhereTold digest os out told Claim = AreObjects digest os → AreTold os out told → Claim

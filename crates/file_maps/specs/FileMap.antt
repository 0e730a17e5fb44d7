-- File maps: which file stands at each path of a tree, as git-ls-tree(1) lists them with -r.
use Rattle.std.specs.Prelude.{◌≡◌, ◌≢◌, ℕ, get_or, ◌≤◌, Bool, ◌&&◌, not, is_some, List, [], ◌∷◌}
use Rattle.std.specs.Prelude.{length, true, IsTrue, refl}
use Rattle.std.specs.Coded.{Coded, code_by, coded×, coded_list, coded_ℕ}
use Rattle.std.specs.FinMap as map
use Rattle.std.specs.FinMap.{is_sorted}
use Rattle.std.specs.List.{AllByRecursion}
use Rattle.git_model.specs.declared.file_mode.FileMode.{FileMode}
use Rattle.git_model.specs.declared.file_mode.FileMode.TheVariants as mode
use Rattle.git_model.specs.Limits.{files_limit}
use Rattle.git_model.specs.ObjectName.{IsObjectName}
use Rattle.git_paths.specs.Order.{path_cmp}
use Rattle.git_paths.specs.Paths.{IsPath, IsWithinLimits, strip_prefix}
use Rattle.file_maps.specs.declared.entry.Entry.{Entry}

-- A path is its components; the root has none.
abbrev pub Path : Type 0
Path = List (List ℕ)

-- Files, each with its path: first the path, then the mode and the object name.
abbrev pub Listed : Type 0
Listed = List (Path × Entry)

-- A file map has one file at a path, and lists its files in the order of the paths' bytes.
abbrev pub FileMap : Type 0
FileMap = map.FinMap path_cmp Entry

-- The files of a map in that order.
abbrev pub listed : FileMap → Listed
listed m = map.entries m

-- Two paths are apart where neither is the other or a prefix of it.
abbrev pub is_apart : Path → Path → Bool
is_apart p q = not (is_some (strip_prefix p q)) && not (is_some (strip_prefix q p))

-- ---- what is true of the files of every value of `Files`

-- A file is below the root, at a path within the limits; it is not a directory.
pub record IsFile (f : Path × Entry) : Type 0 where
  pub below_the_root : f.0 ≢ []
  pub path : IsPath f.0
  pub limits : IsWithinLimits f.0
  pub mode : f.1.mode ≢ mode.Directory
  pub name : IsObjectName f.1.name

-- Any two of these files are apart.
abbrev pub ArePairwiseApart : Listed → Type 0
ArePairwiseApart [] = Unit {0}
ArePairwiseApart (f ∷ files) =
    AllByRecursion (λ g. is_apart f.0 g.0 ≡ true) files × ArePairwiseApart files

pub record AreFiles (files : Listed) : Type 0 where
  pub in_order : IsTrue (is_sorted path_cmp files)
  pub each : AllByRecursion IsFile files
  pub apart : ArePairwiseApart files
  pub few : length files ≤ files_limit

-- ---- the code of a map

abbrev pub mode_number : FileMode → ℕ
mode_number mode.Regular = 0
mode_number mode.Executable = 1
mode_number mode.Symlink = 2
mode_number mode.Gitlink = 3
mode_number mode.Directory = 4

abbrev pub modes : List FileMode
modes = mode.Regular ∷ mode.Executable ∷ mode.Symlink ∷ mode.Gitlink ∷ mode.Directory ∷ []

abbrev pub mode_of : ℕ → FileMode
mode_of n = get_or modes n mode.Regular

pub mode_of-number : (m : FileMode) → mode_of (mode_number m) ≡ m
mode_of-number mode.Regular = refl
mode_of-number mode.Executable = refl
mode_of-number mode.Symlink = refl
mode_of-number mode.Gitlink = refl
mode_of-number mode.Directory = refl

abbrev pub entry_code : Coded Entry
entry_code =
    code_by (ℕ × List ℕ) (coded× coded_ℕ (coded_list coded_ℕ)) (λ e. (mode_number e.mode, e.name))
    (λ p. record { mode = mode_of p.0; name = p.1 })
    (λ e i. record { mode = mode_of-number e.mode i; name = e.name })

abbrev pub file_map_code : Coded FileMap
file_map_code = map.code (coded_list (coded_list coded_ℕ)) entry_code

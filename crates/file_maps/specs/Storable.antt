-- Files of which trees can be stored.
use Rattle.std.specs.Prelude.{◌≡◌, ℕ, ◌≤◌, max, [], ◌∷◌, length}
use Rattle.std.specs.List.{AllByRecursion}
use Rattle.std.specs.Ordering.{nat_cmp}
use Rattle.std.specs.Cmp.Lexicographic.{slice_cmp}
use Rattle.std.specs.declared.cmp.Ordering.TheVariants.{Less}
use Rattle.git_model.specs.Limits.{files_limit}
use Rattle.git_paths.specs.Paths.{joined}
use Rattle.tenant_tables.specs.declared.summary.Summary.{Summary}
use Rattle.file_maps.specs.FileMap.{Listed, ArePairwiseApart, IsFile}
use Rattle.file_maps.specs.Trees.{depth_of}

-- Each file comes before all later ones, in the order of the paths' bytes.
abbrev pub AreInOrder : Listed → Type 0
AreInOrder [] = Unit {0}
AreInOrder (f ∷ files) =
    AllByRecursion (λ g. slice_cmp nat_cmp (joined f.0) (joined g.0) ≡ Less) files
    × AreInOrder files

pub record AreStorable (files : Listed) : Type 0 where
  pub in_order : AreInOrder files
  pub each : AllByRecursion IsFile files
  pub apart : ArePairwiseApart files
  pub few : length files ≤ files_limit

-- The most bytes of a path.
abbrev pub longest_of : Listed → ℕ
longest_of [] = 0
longest_of (f ∷ files) = max (length (joined f.0)) (longest_of files)

-- What a table keeps beside the tree of these files.
abbrev pub files_summary : Listed → Summary
files_summary files =
    record { files = length files; depth = depth_of files; longest = longest_of files }

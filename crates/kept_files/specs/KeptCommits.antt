-- The files of the last commits that ended, oldest first.
use Rattle.std.specs.Prelude.{◌≡◌, ◌⊎◌, ℕ, List, [], ◌∷◌, ◌++◌, drop, All}
use Rattle.std.specs.List.{sum_by}
use Rattle.git_model.specs.Repository.{Object}
use Rattle.tree_build.specs.Branch.{IsBranch}
use Rattle.kept_files.specs.declared.kept_files.KeptCommit.{KeptCommit}

-- How many commits are kept.
abbrev pub commits_limit : ℕ
commits_limit = 5

-- How many files they have together.
abbrev pub files_of : List KeptCommit → ℕ
files_of kept = sum_by (λ commit. commit.files.files) kept

-- The files of each are a branch among the objects.
abbrev pub AreBranches : List Object → List KeptCommit → Type 0
AreBranches os kept = All (λ commit. IsBranch os commit.files) kept

-- One commit was taken out, and the others stay.
pub record TakesOut (kept : KeptCommit) (old new : List KeptCommit) : Type 0 where
  pub older : List KeptCommit
  pub younger : List KeptCommit
  pub was : old ≡ older ++ kept ∷ younger
  pub stay : new ≡ older ++ younger

-- Some of the oldest went, and one commit came last. If memory ran out, it did not come.
pub record AddsCommit (kept : KeptCommit) (old new : List KeptCommit) : Type 0 where
  pub gone : ℕ
  pub stay : (new ≡ drop gone old ++ kept ∷ []) ⊎ (new ≡ drop gone old)

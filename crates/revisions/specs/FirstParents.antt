-- A walk along first parents: gitrevisions(7), "<rev>~<n>".
use Rattle.std.specs.Prelude.{◌≡◌, ℕ, ◌-◌, ◌<◌, ◌≤◌, List, [], ◌∷◌, length, slice_get, Option, None, Some, Result, Ok, Err}
use Rattle.git_model.specs.Repository.{Object}
use Rattle.revisions.specs.declared.fault.Fault.{Fault}
use Rattle.revisions.specs.Resolution.{nth_parent}

-- This commit is followed by its first parent, then by the first parent of that, and so on.
abbrev pub FollowFirstParents : List Object → List ℕ → List (List ℕ) → Type 0
FollowFirstParents os commit [] = Unit {0}
FollowFirstParents os commit (parent ∷ more) =
    (nth_parent os 1 commit ≡ Ok parent) × FollowFirstParents os parent more

-- Each commit of a chain, but the one that it begins at, is the first parent of the one before.
abbrev pub IsFirstParentChain : List Object → List (List ℕ) → Type 0
IsFirstParentChain os [] = Unit {0}
IsFirstParentChain os (commit ∷ more) = FollowFirstParents os commit more

-- A way that is shorter than n steps ends at a commit of a chain.
pub record Meets (chain way : List (List ℕ)) (n at : ℕ) : Type 0 where
  pub id : List ℕ
  pub short : length way ≤ n
  pub last : slice_get way (length way - 1) ≡ Some id
  pub there : slice_get chain at ≡ Some id

-- A way is n steps long, or it ends at a commit of a chain, or it was refused.
abbrev pub EndsOn : List (List ℕ) → List (List ℕ) → ℕ → Result (Option ℕ) Fault → Type 0
EndsOn chain way n (Err e) = Unit {0}
EndsOn chain way n (Ok None) = n < length way
EndsOn chain way n (Ok (Some at)) = Meets chain way n at

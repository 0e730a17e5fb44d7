-- Which of the files that are kept are branches.
use Rattle.std.proofs.Common.{◌≡◌, ℕ, List, [], ◌∷◌, ◌++◌, Option, None, Some, sym, subst}
use Rattle.std.specs.Prelude.{All, IfNone, IfSome}
use Rattle.std.proofs.lemmas.List.Elements.{All-cons, All-head, All-tail}
use Rattle.git_model.specs.Repository.{Object}
use Rattle.tree_build.specs.Branch.{Branch, IsBranch}
use Rattle.kept_files.specs.declared.kept_files.KeptCommit.{KeptCommit}
use Rattle.kept_files.specs.KeptCommits.{AreBranches, TakesOut}

-- where all are, the one between is, and so are the others
split : {A : Type 0} (P : A → Type 0) (older younger : List A) (one : A)
    → All P (older ++ one ∷ younger) → All P (older ++ younger) × P one
split P [] younger one all = (All-tail P one younger all, All-head P one younger all)
split P (first ∷ older) younger one all =
    let rest = split P older younger one (All-tail P first (older ++ one ∷ younger) all) in (
      All-cons P first (older ++ younger) (All-head P first (older ++ one ∷ younger) all) rest.0,
      rest.1,
    )

-- what was taken out is a branch if all were, and the others are
pub taken_branch : (os : List Object) (commit : List ℕ) (taken : Option Branch)
    (old new : List KeptCommit)
    → IfSome taken (λ files. TakesOut (record { commit = commit; files = files }) old new)
    → IfNone taken (new ≡ old) → AreBranches os old
    → AreBranches os new × IfSome taken (λ files. IsBranch os files)
taken_branch os commit None old new takes same all =
    (subst (λ (kept : List KeptCommit). AreBranches os kept) (sym same) all, tt)
taken_branch os commit (Some files) old new takes same all =
    let one : KeptCommit = record { commit = commit; files = files } in
    let parts = split (λ kept. IsBranch os kept.files) takes.older takes.younger one
    (subst (λ (kept : List KeptCommit). AreBranches os kept) takes.was all) in
    (subst (λ (kept : List KeptCommit). AreBranches os kept) (sym takes.stay) parts.0, parts.1)

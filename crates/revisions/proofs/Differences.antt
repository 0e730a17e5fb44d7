-- The commits of a range.
use Rattle.std.proofs.Common.{◌≡◌, ℕ, true, inl, inr, ◌&&◌, not, List}
use Rattle.std.specs.Prelude.{IsTrue}
use Rattle.std.proofs.lemmas.Bool.{and_parts, or_cases}
use Rattle.git_model.specs.declared.kind.Kind.TheVariants as kind
use Rattle.git_model.specs.Repository.{Object}
use Rattle.git_model.specs.Peeling.{is_of}
use Rattle.git_model.specs.Reach.{reaches}
use Rattle.revisions.specs.declared.commit_range.Range.{Range}
use Rattle.revisions.specs.declared.commit_range.Range.TheVariants.{From, Between, Either}
use Rattle.revisions.specs.Ranges.{is_in_range}

-- what is reached is a commit
pub reached_commit : (os : List Object) (tip id : List ℕ) → reaches os tip id ≡ true
    → IsTrue (is_of os kind.Commit id)
unfolding reaches
reached_commit os tip id e = (and_parts _ _ (and_parts _ _ e).0).1

without_commit : (os : List Object) (tip old id : List ℕ)
    → (reaches os tip id && not (reaches os old id)) ≡ true → IsTrue (is_of os kind.Commit id)
without_commit os tip old id e = reached_commit os tip id (and_parts _ _ e).0

pub range_commit : (os : List Object) (range : Range (List ℕ)) (id : List ℕ)
    → IsTrue (is_in_range os range id) → IsTrue (is_of os kind.Commit id)
range_commit os (From tip) id e = reached_commit os tip id e
range_commit os (Between old tip) id e = without_commit os tip old id e
range_commit os (Either left right) id e = elim (or_cases _ _ e) [
  | inl one ↦ without_commit os left right id one
  | inr other ↦ without_commit os right left id other
]

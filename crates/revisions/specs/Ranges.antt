-- Ranges of commits: gitrevisions(7), "Specifying Ranges".
use Rattle.std.specs.Prelude.{ℕ, ◌&&◌, ◌||◌, not, Bool, List, Result, Ok}
use Rattle.git_model.specs.declared.kind.Kind.TheVariants as kind
use Rattle.git_model.specs.RefStore.{RefStore}
use Rattle.git_model.specs.Repository.{Object}
use Rattle.git_model.specs.Reach.{reaches}
use Rattle.revisions.specs.declared.fault.Fault.{Fault}
use Rattle.git_model.specs.Results.{and_then}
use Rattle.revisions.specs.declared.commit_range.Range.{Range}
use Rattle.revisions.specs.declared.commit_range.Range.TheVariants.{From, Between, Either}
use Rattle.revisions.specs.Expressions.{Expression}
use Rattle.revisions.specs.Resolution.{named_by, peeled}

-- Each side of a range is peeled to a commit.
abbrev pub commit_named : List Object → RefStore → Expression → Result (List ℕ) Fault
commit_named os store expression = and_then (named_by os store expression) (peeled os kind.Commit)

-- The left side is decided wholly before the right.
abbrev pub both_named : List Object → RefStore → Expression → Expression
    → Result (List ℕ × List ℕ) Fault
both_named os store left right =
    and_then (commit_named os store left) (λ l.
    and_then (commit_named os store right) (λ r. Ok (l, r)))

-- The range by the names of its commits.
abbrev pub range_named : List Object → RefStore → Range Expression
    → Result (Range (List ℕ)) Fault
range_named os store (From tip) = and_then (commit_named os store tip) (λ id. Ok (From id))
range_named os store (Between old tip) =
    and_then (both_named os store old tip) (λ ids. Ok (Between ids.0 ids.1))
range_named os store (Either left right) =
    and_then (both_named os store left right) (λ ids. Ok (Either ids.0 ids.1))

-- Whether one commit is reachable from the first of two and not from the second.
abbrev pub reaches_without : List Object → List ℕ → List ℕ → List ℕ → Bool
reaches_without os tip old id = reaches os tip id && not (reaches os old id)

-- Whether a commit is in a range.
abbrev pub is_in_range : List Object → Range (List ℕ) → List ℕ → Bool
is_in_range os (From tip) id = reaches os tip id
is_in_range os (Between old tip) id = reaches_without os tip old id
is_in_range os (Either left right) id =
    reaches_without os left right id || reaches_without os right left id

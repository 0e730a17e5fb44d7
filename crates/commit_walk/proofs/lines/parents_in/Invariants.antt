use Rattle.std.proofs.Common.{◌≡◌, ◌++◌, ℕ, List, length}
use Rattle.git_model.specs.Readable.{CommitFront, commit_front, IsCommitFront}
use Rattle.commit_walk.proofs.HeaderLines.{AreLeft}
use Rattle.commit_walk.proofs.lines.parents_in.Given as goal

abbrev pub invariant-line : goal.invariant-line
invariant-line l = (front : CommitFront) (rest : List ℕ) → IsCommitFront front rest
    → l.contents ≡ commit_front front ++ rest
    → (ds : List (List ℕ)) × AreLeft front rest l.rest l.parents.items ds l.rest

abbrev pub decreases-line : goal.decreases-line
decreases-line l = length l.rest

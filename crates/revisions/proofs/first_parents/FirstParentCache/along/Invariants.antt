use Rattle.std.proofs.Common.{◌≡◌, ℕ, ◌+◌, ◌-◌, ◌<◌, List, Some, slice_get, length}
use Rattle.git_model.specs.HeldObjects.{AreHeld}
use Rattle.revisions.specs.FirstParents.{IsFirstParentChain}
use Rattle.revisions.proofs.first_parents.FirstParentCache.along.Given as goal

-- it has the commit at the position, and all that it had
abbrev pub invariant-way : goal.invariant-way
invariant-way g l = record {
  within : l.at < length l.self-inside.commits.items;
  chain : AreHeld g.N.Naming.digest_of l.objects → IsFirstParentChain l.objects l.fn.self
      → IsFirstParentChain l.objects l.self-inside.commits.items;
  stays : (i : ℕ) (id : List ℕ) → slice_get l.fn.self i ≡ Some id → slice_get l.self-inside.commits.items i ≡ Some id;
}

abbrev pub decreases-way : goal.decreases-way
decreases-way g l = l.at + l.n + 1 - length l.self-inside.commits.items

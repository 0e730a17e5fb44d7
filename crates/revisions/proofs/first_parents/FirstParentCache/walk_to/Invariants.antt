use Rattle.std.proofs.Common.{◌≡◌, Some, slice_get, ◌+◌, ◌-◌, length}
use Rattle.git_model.specs.HeldObjects.{AreHeld}
use Rattle.revisions.specs.FirstParents.{IsFirstParentChain}
use Rattle.revisions.proofs.first_parents.FirstParentCache.walk_to.Given as goal

-- it begins at the commit
abbrev pub invariant-way : goal.invariant-way
invariant-way g l = record {
  begun : slice_get l.self-inside.commits.items 0 ≡ Some l.fn.commit;
  chain : AreHeld g.N.Naming.digest_of l.objects → IsFirstParentChain l.objects l.fn.self
      → IsFirstParentChain l.objects l.self-inside.commits.items;
}

abbrev pub decreases-way : goal.decreases-way
decreases-way g l = l.n + 1 - length l.self-inside.commits.items

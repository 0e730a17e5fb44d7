use Rattle.std.proofs.Common.{◌-◌, ◌≤◌, length}
use Rattle.revisions.proofs.first_parents.FirstParentCache.first_up_to.Given as goal

abbrev pub invariant-halves : goal.invariant-halves
invariant-halves g l = record {
  ordered : l.low ≤ l.high;
  within : l.high ≤ length l.self-inside.commits.items;
}

abbrev pub decreases-halves : goal.decreases-halves
decreases-halves g l = l.high - l.low

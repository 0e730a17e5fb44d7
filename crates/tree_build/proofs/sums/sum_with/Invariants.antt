use Rattle.std.proofs.Common.{◌≡◌, drop}
use Rattle.tree_build.specs.Sums.{sum_with}
use Rattle.tree_build.proofs.sums.sum_with.Given as goal

abbrev pub invariant-loop-entry : goal.invariant-loop-entry
invariant-loop-entry l =
    sum_with l.table.entries l.sum (drop l.entry-index l.chunk) ≡ sum_with l.table.entries l.fn.before l.chunk

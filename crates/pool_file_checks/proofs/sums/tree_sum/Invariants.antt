use Rattle.std.proofs.Common.{drop}
use Rattle.git_objects.specs.Parts.{entries_of}
use Rattle.pool_file_checks.proofs.SumLemmas.{Summed}
use Rattle.pool_file_checks.proofs.sums.tree_sum.Given as goal

abbrev pub invariant-loop-entry : goal.invariant-loop-entry
invariant-loop-entry l = Summed l.sums.entries l.sum (entries_of (drop l.entry-index l.entries)) (entries_of l.entries)

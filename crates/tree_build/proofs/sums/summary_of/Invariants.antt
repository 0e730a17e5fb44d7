use Rattle.std.proofs.Common.{◌≡◌, drop}
use Rattle.tenant_tables.specs.Trees.{no_files}
use Rattle.tree_build.specs.Chunks.{all}
use Rattle.tree_build.specs.Sums.{sum_with}
use Rattle.tree_build.proofs.sums.summary_of.Given as goal

abbrev pub invariant-loop-chunk : goal.invariant-loop-chunk
invariant-loop-chunk l =
    sum_with l.table.entries l.sum (all (drop l.chunk-index l.chunks)) ≡ sum_with l.table.entries no_files (all l.chunks)

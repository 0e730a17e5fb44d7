use Rattle.std.proofs.Common.{◌+◌, sym, ap, ◌∙◌, subst, drop, List}
use Rattle.tenant_tables.specs.declared.summary.Summary.{Summary}
use Rattle.tenant_tables.specs.Trees.{no_files}
use Rattle.tree_build.specs.Chunks.{all}
use Rattle.tree_build.specs.Nodes.{shape_of}
use Rattle.tree_build.specs.Stores.{AreNamed}
use Rattle.tree_build.specs.Sums.{IsSmall, sum_with}
use Rattle.tree_build.proofs.Spots.{Row}
use Rattle.tree_build.proofs.Chunked.{chunk-named}
use Rattle.tree_build.proofs.Summing.{chunk-sum, chunk-small}
use Rattle.tree_build.proofs.sums.summary_of.Goals as goal

pub sum_with-sum-requires-clause-named : goal.sum_with-sum-requires-clause-named
sum_with-sum-requires-clause-named c =
    subst (λ (l : List Row). AreNamed (shape_of l)) (sym c.deref.ensures.value)
    (chunk-named c.args.chunks.now c.loop-chunk.chunk-index c.chunk-item.result c.loop-chunk-test.true c.chunk-item.is c.requires.named)

pub sum_with-sum-requires-clause-small : goal.sum_with-sum-requires-clause-small
sum_with-sum-requires-clause-small c =
    subst (λ (l : List Row). IsSmall (sum_with c.args.table.now.entries c.loop-chunk.sum l)) (sym c.deref.ensures.value)
    (chunk-small c.args.table.now.entries c.args.chunks.now c.loop-chunk.chunk-index c.chunk-item.result c.loop-chunk.sum
    (sum_with c.args.table.now.entries no_files (all c.args.chunks.now))
    c.loop-chunk-test.true c.chunk-item.is c.loop-chunk.invariant c.requires.small)

pub loop-chunk-preserved : goal.loop-chunk-preserved
loop-chunk-preserved c =
    ap (λ (s : Summary). sum_with c.args.table.now.entries s (all (drop (c.loop-chunk.chunk-index + 1) c.args.chunks.now)))
    (c.sum_with-sum.ensures ∙ ap (sum_with c.args.table.now.entries c.loop-chunk.sum) c.deref.ensures.value)
    ∙ chunk-sum c.args.table.now.entries c.args.chunks.now c.loop-chunk.chunk-index c.chunk-item.result c.loop-chunk.sum
    (sum_with c.args.table.now.entries no_files (all c.args.chunks.now))
    c.loop-chunk-test.true c.chunk-item.is c.loop-chunk.invariant

use Rattle.std.proofs.Common.{sym, subst}
use Rattle.tenant_tables.specs.declared.summary.Summary.{Summary}
use Rattle.tenant_tables.specs.Trees.{both}
use Rattle.tree_build.specs.Sums.{IsSmall, sum_with}
use Rattle.tree_build.proofs.Places.{named-at}
use Rattle.tree_build.proofs.Summing.{second-small, next-small}
use Rattle.tree_build.proofs.sums.sum_with.Goals as goal

pub entry_summary-requires-clause-named : goal.entry_summary-requires-clause-named
entry_summary-requires-clause-named c =
    named-at c.args.chunk.now c.loop-entry.entry-index c.entry-item.result c.loop-entry-test.true c.entry-item.is c.requires.named

pub entry_summary-requires-clause-small : goal.entry_summary-requires-clause-small
entry_summary-requires-clause-small c =
    second-small c.loop-entry.sum _
    (next-small c.args.table.now.entries c.args.chunk.now c.loop-entry.entry-index c.entry-item.result c.loop-entry.sum
    (sum_with c.args.table.now.entries c.args.before c.args.chunk.now)
    c.loop-entry-test.true c.entry-item.is c.loop-entry.invariant c.requires.small)

pub both-sum-requires : goal.both-sum-requires
both-sum-requires c =
    subst (λ (s : Summary). IsSmall (both c.loop-entry.sum s))
    (sym c.entry_summary.ensures)
    (next-small c.args.table.now.entries c.args.chunk.now c.loop-entry.entry-index c.entry-item.result c.loop-entry.sum
    (sum_with c.args.table.now.entries c.args.before c.args.chunk.now)
    c.loop-entry-test.true c.entry-item.is c.loop-entry.invariant c.requires.small)

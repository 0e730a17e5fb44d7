use Rattle.std.proofs.Common.{sym, subst}
use Rattle.git_objects.specs.Parts.{entries_of}
use Rattle.tenant_tables.specs.declared.summary.Summary.{Summary}
use Rattle.tenant_tables.specs.Sums.{IsWithin}
use Rattle.tenant_tables.specs.Trees.{both, tree_summary}
use Rattle.pool_file.proofs.EntrySums.{second_within, next_within}
use Rattle.pool_file.proofs.summing.entries_summary.Goals as goal

pub entry_summary-requires : goal.entry_summary-requires
entry_summary-requires c =
    second_within c.loop-entry.sum _
    (next_within c.args.table.now.entries c.args.entries.now c.loop-entry.entry-index c.entry-item.result c.loop-entry.sum
    (tree_summary c.args.table.now.entries (entries_of c.args.entries.now))
    c.loop-entry-test.true c.entry-item.is c.loop-entry.invariant c.requires)

pub both-sum-requires : goal.both-sum-requires
both-sum-requires c =
    subst (λ (s : Summary). IsWithin (both c.loop-entry.sum s)) (sym c.entry_summary.ensures)
    (next_within c.args.table.now.entries c.args.entries.now c.loop-entry.entry-index c.entry-item.result c.loop-entry.sum
    (tree_summary c.args.table.now.entries (entries_of c.args.entries.now))
    c.loop-entry-test.true c.entry-item.is c.loop-entry.invariant c.requires)

use Rattle.std.proofs.Common.{◌≡◌, drop}
use Rattle.git_objects.specs.Parts.{entries_of}
use Rattle.tenant_tables.specs.Trees.{tree_summary}
use Rattle.pool_file.proofs.EntrySums.{sum_with}
use Rattle.pool_file.proofs.summing.entries_summary.Given as goal

-- With the entries that are left, the sum is that of all.
abbrev pub invariant-loop-entry : goal.invariant-loop-entry
invariant-loop-entry l =
    sum_with l.table.entries l.sum (drop l.entry-index l.entries) ≡ tree_summary l.table.entries (entries_of l.entries)

use Rattle.std.proofs.Common.{◌≤◌, length}
use Rattle.tenant_tables.proofs.TableLemmas.{Released}
use Rattle.tenant_tables.proofs.table.Table.release_from.Given as goal

abbrev pub invariant-loop-count : goal.invariant-loop-count
invariant-loop-count g l = record {
  released : Released g.N.Naming.digest_of l.fn.pool l.fn.self.entries l.count l.pool;
  within : l.kept ≤ l.count;
  all : l.count ≤ length l.fn.self.entries;
}

abbrev pub decreases-loop-count : goal.decreases-loop-count
decreases-loop-count g l = l.count

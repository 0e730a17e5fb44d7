use Rattle.std.proofs.Common.{◌≡◌, ◌≤◌, length, take}
use Rattle.tenant_tables.specs.Objects.{objects}
use Rattle.tenant_tables.specs.IsBackedBy.{IsBackedBy, PreservesOthers}
use Rattle.pool_tests.proofs.tables.plain_table.PlainTable.roll_back.Given as goal

abbrev pub invariant-loop-self : goal.invariant-loop-self
invariant-loop-self g l = record {
  stands : IsBackedBy g.N.Naming.digest_of l.pool l.self.entries;
  others : PreservesOthers l.fn.pool l.fn.self.entries l.pool l.self.entries;
  entries : l.self.entries ≡ take (length l.self.entries) l.fn.self.entries;
  objects : objects l.pool l.self.entries ≡ take (length l.self.entries) (objects l.fn.pool l.fn.self.entries);
  committed : l.self.committed ≡ l.fn.self.committed;
  within : l.fn.self.committed ≤ length l.self.entries;
}

abbrev pub decreases-loop-self : goal.decreases-loop-self
decreases-loop-self g l = length l.self.entries

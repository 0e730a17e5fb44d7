use Rattle.pool_tests.proofs.TablesInLists.{IsList-nil}
use Rattle.pool_tests.proofs.tables.plain_table.PlainTable.new.Goals as goal

pub invariant_of-result : goal.invariant_of-result
invariant_of-result c = rw c.new.ensures.items IsList-nil

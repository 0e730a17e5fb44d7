use Rattle.tenant_tables.proofs.FoundLemmas.{named-take}
use Rattle.pool_tests.proofs.tables.plain_table.PlainTable.seen.Goals as goal

pub returns-in-Committed-clause-named : goal.returns-in-Committed-clause-named
returns-in-Committed-clause-named c =
    rw c.deref.ensures.value (named-take _ _ c.self.invariant.named)

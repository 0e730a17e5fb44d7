use Rattle.tenant_tables.proofs.Joined.{IsTable-commit}
use Rattle.tenant_tables.proofs.table.Table.commit.Goals as goal

pub invariant_of-self : goal.invariant_of-self
invariant_of-self c = rw c.commit.ensures (IsTable-commit _ _ _ c.self.invariant)

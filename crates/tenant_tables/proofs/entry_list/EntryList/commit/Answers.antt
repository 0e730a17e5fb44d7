use Rattle.tenant_tables.proofs.IndexLemmas.{IsIndexed-commit}
use Rattle.tenant_tables.proofs.entry_list.EntryList.commit.Goals as goal

pub invariant_of-self : goal.invariant_of-self
invariant_of-self c =
    rw c.len-self-inside.ensures.len
    (IsIndexed-commit _ _ _ _ c.self.invariant c.commit.ensures.committed c.commit.ensures.added)

use Rattle.tenant_tables.proofs.IndexLemmas.{IsIndexed-roll_back}
use Rattle.tenant_tables.proofs.entry_list.EntryList.roll_back.Goals as goal

pub invariant_of-self : goal.invariant_of-self
invariant_of-self c =
    rw c.shorten.ensures
    (IsIndexed-roll_back _ _ _ _ c.self.invariant c.roll_back.ensures.committed c.roll_back.ensures.added)

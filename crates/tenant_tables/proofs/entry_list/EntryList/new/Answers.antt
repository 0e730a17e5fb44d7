use Rattle.tenant_tables.proofs.IndexLemmas.{IsIndexed-nil}
use Rattle.tenant_tables.proofs.entry_list.EntryList.new.Goals as goal

pub invariant_of-result : goal.invariant_of-result
invariant_of-result c =
    rw c.new.ensures.empty (IsIndexed-nil _ c.new-2.ensures.committed c.new-2.ensures.added)

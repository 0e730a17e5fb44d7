use Rattle.std.proofs.Common.{◌≡◌, ◌≤◌, ◌-◌, length, take}
use Rattle.tenant_tables.proofs.entry_list.EntryList.first.Given as goal

abbrev pub invariant-loop-list : goal.invariant-loop-list
invariant-loop-list l = record {
  are : l.list.entries ≡ take (length l.list.entries) l.self.entries;
  within : length l.list.entries ≤ l.count;
}

abbrev pub decreases-loop-list : goal.decreases-loop-list
decreases-loop-list l = l.count - length l.list.entries

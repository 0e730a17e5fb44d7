use Rattle.std.proofs.Common.{◌≡◌, take}
use Rattle.name_index.specs.Index.{most_shared}
use Rattle.tenant_tables.specs.View.{names}
use Rattle.tenant_tables.proofs.entry_list.EntryList.most_among_first.Given as goal

abbrev pub invariant-loop-place : goal.invariant-loop-place
invariant-loop-place l = l.most ≡ most_shared l.id (names (take l.place l.self.entries))

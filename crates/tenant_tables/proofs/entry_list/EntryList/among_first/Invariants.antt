use Rattle.std.proofs.Common.{◌≡◌, filter, take}
use Rattle.name_index.specs.Index.{is_between}
use Rattle.tenant_tables.specs.Abbreviation.{only_of}
use Rattle.tenant_tables.specs.View.{names}
use Rattle.tenant_tables.proofs.entry_list.EntryList.among_first.Given as goal

abbrev pub invariant-loop-place : goal.invariant-loop-place
invariant-loop-place l =
    l.found ≡ only_of (filter (is_between l.first l.last) (names (take l.place l.self.entries)))

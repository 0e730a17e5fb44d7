use Rattle.std.proofs.Common.{◌≡◌, filter, take}
use Rattle.tenant_tables.specs.Abbreviation.{only_of}
use Rattle.tenant_tables.specs.View.{names}
use Rattle.pool_tests.proofs.TablesInLists.{lies}
use Rattle.pool_tests.proofs.tables.plain_table.PlainTable.starting_with.Given as goal

abbrev pub invariant-loop-id : goal.invariant-loop-id
invariant-loop-id l =
    l.found ≡ only_of (filter (lies l.first l.last) (names (take l.id-index l.objects)))

use Rattle.std.proofs.Common.{rules}
use Rattle.tenant_tables.proofs.PlainSums.{other-summed}
use Rattle.tenant_tables.proofs.table.Table.add.Goals as goal

pub store-requires-clause-summed : goal.store-requires-clause-summed
store-requires-clause-summed g c = other-summed _ _ c.requires.no_tree

pub returns : goal.returns
returns g c = search rules

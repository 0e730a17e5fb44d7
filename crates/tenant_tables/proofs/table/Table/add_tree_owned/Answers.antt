use Rattle.std.proofs.Common.{rules}
use Rattle.tenant_tables.proofs.PlainSums.{tree-summed}
use Rattle.tenant_tables.proofs.table.Table.add_tree_owned.Goals as goal

pub store-requires-clause-summed : goal.store-requires-clause-summed
store-requires-clause-summed g c = tree-summed _ _ _ c.requires.tree

pub returns : goal.returns
returns g c = search rules

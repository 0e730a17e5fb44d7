use Rattle.tenant_tables.proofs.Shared.{are_first}
use Rattle.tenant_tables.proofs.table.Table.first.Goals as goal

pub invariant_of-result : goal.invariant_of-result
invariant_of-result c =
    (are_first c.args.count _ _ _ _ _ _ _ c.self.view_is c.self.invariant c.requires c.in_ok-front.ensures c.len.ensures c.in_ok-own.ensures).table

pub returns : goal.returns
returns c =
    (are_first c.args.count _ _ _ _ _ _ _ c.self.view_is c.self.invariant c.requires c.in_ok-front.ensures c.len.ensures c.in_ok-own.ensures).view

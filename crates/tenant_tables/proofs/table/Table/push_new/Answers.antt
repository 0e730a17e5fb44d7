use Rattle.tenant_tables.proofs.Joined.{IsTable-push, new_own}
use Rattle.tenant_tables.proofs.table.Table.push_new.Goals as goal

pub push_content-requires-clause-new : goal.push_content-requires-clause-new
push_content-requires-clause-new g c = new_own c.args.id _ _ _ _ c.self.view_is c.requires.new

pub invariant_of-self-2 : goal.invariant_of-self-2
invariant_of-self-2 g c =
    rw c.in_ok-push_content.ensures.ok (IsTable-push _ _ _ _ _ _ c.self.view_is c.self.invariant c.requires.spare c.requires.new)

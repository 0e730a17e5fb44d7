use Rattle.tenant_tables.proofs.Backed.{are_backed}
use Rattle.tenant_tables.proofs.objects.Objects.are_backed.Goals as goal

pub returns : goal.returns
returns g c =
    are_backed g.N.Naming.digest_of c.self.inside.pool.now c.self.inside.sight c.self.inside.table.now c.args.self.now
    c.self.invariant c.self.view_is

use Rattle.tenant_service.proofs.AccountLemmas.{ample}
use Rattle.tenant_service.proofs.tenants.has_room.Goals as goal

pub returns : goal.returns
returns g c =
    ample g.N.Naming.digest_of c.args.pool.now c.args.tenants.now.entries c.requires (rw c.len-count.ensures.len at c.len-count.ensures.small)

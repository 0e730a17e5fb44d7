use Rattle.std.proofs.lemmas.Result.{err_from_is_err_and}
use Rattle.tenant_service.proofs.MergeLemmas.{has-come}
use Rattle.tenant_service.proofs.PlaceLemmas.{all-kept}
use Rattle.tenant_service.proofs.merging.take_in.Goals as goal

pub returns-in_err-tenant-clause-err : goal.returns-in_err-tenant-clause-err
returns-in_err-tenant-clause-err g c =
    let p = err_from_is_err_and c.from_residual-in_err-tenant.result c.from_residual-in_err-tenant.ensures.1 in
    rw p.1 (all-kept g.N.Naming.digest_of c.args.pool.now c.received.new.pool
    c.args.tenants.now.entries c.reserve.new.self.entries c.requires.accounts
    c.reserve.ensures.entries c.in_err-tenant.ensures.err)

pub returns-clause-ok : goal.returns-clause-ok
returns-clause-ok g c =
    has-come g.N.Naming.digest_of c.args.from.now c.args.pool.now c.received.new.pool
    c.args.tenants.now.entries c.reserve.new.self.entries c.put_tenant.new.tenants.entries
    c.args.lent.now c.copied_name.result c.in_ok-tenant.tenant c.requires.accounts
    c.copied_name.ensures.named c.requires.nothing c.in_ok-tenant.ensures.ok
    c.reserve.ensures.entries c.copied_name.ensures.same c.put_tenant.ensures

use Rattle.std.proofs.Common.{None, map}
use Rattle.std.proofs.lemmas.Result.{err_from_is_err_and}
use Rattle.tenant_service.proofs.LoadedLemmas.{distinct-rising, service-loaded, loads-service, loads-fault, loads-no-room}
use Rattle.tenant_service.proofs.service.Service.load_by.Goals as goal

pub tenants_of-requires : goal.tenants_of-requires
tenants_of-requires g c =
    distinct-rising None (map (λ t. t.name) c.in_ok-pool.loaded.items)
    c.in_ok-pool.ensures.tenants.rising

pub invariant_of-result : goal.invariant_of-result
invariant_of-result g c =
    rw c.in_ok-tenants.ensures
    (service-loaded g.N.Naming.digest_of c.in_ok-pool.pool c.in_ok-pool.loaded.items
    c.in_ok-pool.ensures.tenants)

pub returns-in_err-pool : goal.returns-in_err-pool
returns-in_err-pool g c =
    let p = err_from_is_err_and c.from_residual.result c.from_residual.ensures.1 in
    rw (p.1, p.2) (loads-fault g.N.Naming.digest_of _ _ _ _ c.in_err-pool.ensures)

pub returns-in_err-tenants : goal.returns-in_err-tenants
returns-in_err-tenants g c =
    let p = err_from_is_err_and c.from_residual-in_err-tenants.result c.from_residual-in_err-tenants.ensures.1 in
    rw (p.1, p.2) (loads-no-room g.N.Naming.digest_of _ _ _ _ c.in_ok-pool.ensures)

pub returns : goal.returns
returns g c =
    rw c.in_ok-tenants.ensures
    (loads-service g.N.Naming.digest_of _ _ _ c.in_ok-pool.pool _ c.in_ok-pool.ensures)

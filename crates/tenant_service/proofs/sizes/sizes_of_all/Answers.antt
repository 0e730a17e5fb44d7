use Rattle.tenant_service.proofs.SizeLemmas.{sizes-more, stands-at}
use Rattle.tenant_service.proofs.sizes.sizes_of_all.Goals as goal

pub sizes_of-requires : goal.sizes_of-requires
sizes_of-requires g c =
    stands-at _ c.args.pool.now c.args.tenants.now c.loop-tenant.tenant-index c.tenant-item.result
    c.requires c.loop-tenant-test.true c.tenant-item.is

pub loop-tenant-preserved : goal.loop-tenant-preserved
loop-tenant-preserved g c =
    sizes-more c.args.pool.now c.args.tenants.now c.loop-tenant.sizes.items c.push.new.self.items
    c.sizes_of.result c.loop-tenant.tenant-index c.tenant-item.result c.loop-tenant.invariant
    c.loop-tenant-test.true c.tenant-item.is c.in_ok-push.ensures.items c.sizes_of.ensures

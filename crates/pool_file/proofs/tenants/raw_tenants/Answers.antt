use Rattle.std.proofs.Common.{◌<◌, length}
use Rattle.pool_file.specs.Slots.{IsNumbered}
use Rattle.pool_file.proofs.Planning.{tenants_more}
use Rattle.pool_file.proofs.TenantSlots.{all_of_one}
use Rattle.pool_file.proofs.tenants.raw_tenants.Goals as goal

pub raw_tenant-requires : goal.raw_tenant-requires
raw_tenant-requires c =
    all_of_one (λ s. s < length c.args.by_slot.now) c.args.tenants.now c.tenant-item.result
    c.loop-tenant.tenant-index c.requires c.loop-tenant-test.true c.tenant-item.is

pub loop-tenant-preserved : goal.loop-tenant-preserved
loop-tenant-preserved c = λ pool contents all.
    tenants_more pool contents c.args.tenants.now c.loop-tenant.raws.items c.push.new.self.items
    c.in_ok-raw_tenant.field-0 c.loop-tenant.tenant-index c.tenant-item.result
    (c.loop-tenant.invariant pool contents all) c.loop-tenant-test.true c.tenant-item.is
    c.in_ok-push.ensures.items
    (c.in_ok-raw_tenant.ensures pool contents
    (all_of_one (IsNumbered pool contents c.args.by_slot.now) c.args.tenants.now c.tenant-item.result
    c.loop-tenant.tenant-index all c.loop-tenant-test.true c.tenant-item.is))

use Rattle.std.proofs.Common.{take, sym, ap, subst}
use Rattle.std.proofs.lemmas.List.{take_all}
use Rattle.pool_file.specs.Slots.{AreSeen, all_slots}
use Rattle.pool_file.proofs.SeenSlots.{seen_none}
use Rattle.pool_file.proofs.TenantSlots.{all_more}
use Rattle.pool_file.proofs.seen_slots.seen_slots.Goals as goal

pub loop-tenant-init : goal.loop-tenant-init
loop-tenant-init c = seen_none c.new-seen.result.items c.new-seen.ensures.items

pub loop-tenant-preserved : goal.loop-tenant-preserved
loop-tenant-preserved c =
    subst (AreSeen c.see_tenant.new.seen.items)
    (sym (all_more c.args.tenants.now c.tenant-item.result c.loop-tenant.tenant-index
    c.loop-tenant-test.true c.tenant-item.is))
    (c.in_ok-see_tenant.ensures (all_slots (take c.loop-tenant.tenant-index c.args.tenants.now))
    c.loop-tenant.invariant)

pub returns : goal.returns
returns c =
    subst (AreSeen c.loop-tenant.seen.items)
    (ap all_slots (take_all c.loop-tenant.tenant-index c.args.tenants.now c.loop-tenant-test.false))
    c.loop-tenant.invariant

use Rattle.std.proofs.Common.{List, take, take_all, sym, ap, subst, ◌∙◌}
use Rattle.pool_file_format.specs.declared.raw.RawTenant.{RawTenant as Tenant}
use Rattle.pool_file_format.specs.Format.{RawObject, RawTenant}
use Rattle.pool_file_format.specs.Shown.{tenant_of, tenants_of}
use Rattle.pool_file_checks.specs.Own.{names_of}
use Rattle.pool_file_checks.specs.Quick.{KnowsSums}
use Rattle.pool_file.specs.Building.{objects_at, IsChecked, AddsTenants}
use Rattle.pool_file.proofs.Items.{all_at, shown_on}
use Rattle.pool_file.proofs.Built.{adds_none, adds_on}
use Rattle.pool_file.proofs.building.add_tenants.Goals as goal

pub loop-tenant-init : goal.loop-tenant-init
loop-tenant-init g c =
    adds_none g.N.Naming.digest_of c.args.slots.now c.args.pool.now c.args.tenants.now.items
    c.requires.under

pub add_tenant-requires-clause-named : goal.add_tenant-requires-clause-named
add_tenant-requires-clause-named g c =
    c.requires.named ∙ ap (names_of g.N.Naming.digest_of) (sym c.loop-tenant.invariant.objects)

pub add_tenant-requires-clause-checked : goal.add_tenant-requires-clause-checked
add_tenant-requires-clause-checked g c =
    let digest = g.N.Naming.digest_of in
    let t = c.tenant-item.result in
    subst (λ (os : List RawObject). IsChecked digest os (tenant_of t))
    (sym c.loop-tenant.invariant.objects)
    (all_at tenant_of (IsChecked digest (objects_at c.args.pool.now c.args.slots.now)) c.args.all.now
    c.loop-tenant.tenant-index t c.requires.checked c.loop-tenant-test.true c.tenant-item.is)

pub add_tenant-requires-clause-known : goal.add_tenant-requires-clause-known
add_tenant-requires-clause-known g c =
    subst (λ (os : List RawObject). KnowsSums g.N.Naming.digest_of os c.args.known.now)
    (sym c.loop-tenant.invariant.objects) c.requires.known

pub loop-tenant-preserved : goal.loop-tenant-preserved
loop-tenant-preserved g c =
    let digest = g.N.Naming.digest_of in
    let slots = c.args.slots.now in
    let t = c.tenant-item.result in
    let i = c.loop-tenant.tenant-index in
    subst (λ (rs : List RawTenant). AddsTenants digest slots c.args.pool.now c.args.tenants.now.items rs
    c.add_tenant.new.pool c.add_tenant.new.tenants.items)
    (sym (shown_on tenant_of c.args.all.now i t c.loop-tenant-test.true c.tenant-item.is))
    (adds_on digest slots c.args.pool.now c.loop-tenant.pool c.add_tenant.new.pool
    c.args.tenants.now.items c.loop-tenant.tenants.items c.add_tenant.new.tenants.items
    (tenants_of (take i c.args.all.now)) (tenant_of t)
    c.loop-tenant.invariant c.in_ok-add_tenant.ensures)

pub returns : goal.returns
returns g c =
    subst (λ (rs : List Tenant). AddsTenants g.N.Naming.digest_of c.args.slots.now c.args.pool.now
    c.args.tenants.now.items (tenants_of rs) c.loop-tenant.pool c.loop-tenant.tenants.items)
    (take_all c.loop-tenant.tenant-index c.args.all.now c.loop-tenant-test.false)
    c.loop-tenant.invariant

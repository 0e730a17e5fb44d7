use Rattle.std.proofs.Common.{◌+◌, ◌∙◌, List, ap, drop, arith}
use Rattle.std.specs.List.{flat_map}
use Rattle.std.proofs.lemmas.List.{drop_all}
use Rattle.std.proofs.lemmas.List.Concat.{flat_map-cons}
use Rattle.std.proofs.lemmas.Result.{err_from_is_err_and}
use Rattle.pool_file_format.specs.declared.raw.RawTenant.{RawTenant as Tenant}
use Rattle.pool_file_format.specs.Format.{tenant_text}
use Rattle.pool_file_format.specs.Shown.{tenant_of, tenants_of}
use Rattle.pool_file_format.proofs.Pieces.{item_next, taken_start, taken_on, taken_fails, taken_done}
use Rattle.pool_file_format.proofs.printing.put_many_tenants.Goals as goal

pub loop-tenant-init : goal.loop-tenant-init
loop-tenant-init g c = taken_start g.S.Sink.Took g.S.Sink.Failed _ (flat_map (tenant_text c.args.version) (tenants_of c.args.tenants.now)) g.met.S.Sink.adds_up

pub returns-in_err-put_tenant : goal.returns-in_err-put_tenant
returns-in_err-put_tenant g c =
    let p = err_from_is_err_and c.from_residual.result c.from_residual.ensures.1 in
    rw (p.1, p.2) (taken_fails g.S.Sink.Took g.S.Sink.Failed _ _ _ _ (flat_map (tenant_text c.args.version) (tenants_of c.args.tenants.now))
    (flat_map (tenant_text c.args.version) (tenants_of (drop c.loop-tenant.tenant-index c.args.tenants.now))) ((tenant_text c.args.version) (tenant_of c.tenant-item.result)) (flat_map (tenant_text c.args.version) (tenants_of (drop (c.loop-tenant.tenant-index + 1) c.args.tenants.now)))
    g.met.S.Sink.adds_up (ap (λ (l : List Tenant). (flat_map (tenant_text c.args.version) (tenants_of l))) (item_next c.args.tenants.now c.loop-tenant.tenant-index c.tenant-item.result c.loop-tenant-test.true c.tenant-item.is) ∙ flat_map-cons (tenant_text c.args.version) (tenant_of c.tenant-item.result) (tenants_of (drop (c.loop-tenant.tenant-index + 1) c.args.tenants.now)))
    c.loop-tenant.invariant c.in_err-put_tenant.ensures)

pub loop-tenant-preserved : goal.loop-tenant-preserved
loop-tenant-preserved g c =
    taken_on g.S.Sink.Took g.S.Sink.Failed _ _ _ (flat_map (tenant_text c.args.version) (tenants_of c.args.tenants.now)) (flat_map (tenant_text c.args.version) (tenants_of (drop c.loop-tenant.tenant-index c.args.tenants.now))) ((tenant_text c.args.version) (tenant_of c.tenant-item.result))
    (flat_map (tenant_text c.args.version) (tenants_of (drop (c.loop-tenant.tenant-index + 1) c.args.tenants.now))) g.met.S.Sink.adds_up
    (ap (λ (l : List Tenant). (flat_map (tenant_text c.args.version) (tenants_of l))) (item_next c.args.tenants.now c.loop-tenant.tenant-index c.tenant-item.result c.loop-tenant-test.true c.tenant-item.is) ∙ flat_map-cons (tenant_text c.args.version) (tenant_of c.tenant-item.result) (tenants_of (drop (c.loop-tenant.tenant-index + 1) c.args.tenants.now)))
    c.loop-tenant.invariant c.in_ok-put_tenant.ensures

pub returns : goal.returns
returns g c =
    taken_done g.S.Sink.Took _ _ (flat_map (tenant_text c.args.version) (tenants_of c.args.tenants.now)) (flat_map (tenant_text c.args.version) (tenants_of (drop c.loop-tenant.tenant-index c.args.tenants.now)))
    (ap (λ (l : List Tenant). (flat_map (tenant_text c.args.version) (tenants_of l))) (drop_all c.loop-tenant.tenant-index c.args.tenants.now (let t = c.loop-tenant-test.false in omega (arith, t)))) c.loop-tenant.invariant

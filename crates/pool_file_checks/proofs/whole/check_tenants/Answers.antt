use Rattle.std.proofs.Common.{List, ℕ, None, Some, ◌+◌, drop, sym, subst, arith}
use Rattle.std.specs.Option.{option_map}
use Rattle.std.proofs.lemmas.Result.{err_from_is_err_and}
use Rattle.pool_file_format.specs.declared.raw.RawTenant.{RawTenant}
use Rattle.pool_file_format.specs.Shown.{objects_of, tenant_of, tenants_of}
use Rattle.pool_file_checks.specs.Checks.{Passes}
use Rattle.pool_file_checks.specs.Whole.{own_checks, tenant_checks}
use Rattle.pool_file_checks.proofs.CheckLemmas.{Leads, leads_same}
use Rattle.pool_file_checks.proofs.TenantLemmas.{left_at}
use Rattle.pool_file_checks.proofs.WholeLemmas.{own_passed, none_judged, tenant_on, tenant_stops}
use Rattle.pool_file_checks.proofs.whole.check_tenants.Goals as goal

pub returns-in_err-check_tenant : goal.returns-in_err-check_tenant
returns-in_err-check_tenant c =
    let p = err_from_is_err_and c.from_residual.result c.from_residual.ensures.1 in
    let v = c.args.version in let os = objects_of c.args.objects.now in let last = option_map (λ o. o.now) c.loop-tenant.last in
    let ts = c.args.tenants.now in let i = c.loop-tenant.tenant-index in let t = c.tenant-item.result in
    λ digest same stored. rw (p.1, p.2) (tenant_stops digest v os last (tenant_of t) (tenants_of (drop (i + 1) ts)) (tenant_checks digest v os None (tenants_of ts))
    c.in_err-check_tenant.field-0.0
    (subst (λ (left : List RawTenant). Leads (tenant_checks digest v os last (tenants_of left)) (tenant_checks digest v os None (tenants_of ts)))
    (left_at ts i t (let l = c.loop-tenant-test.true in omega (arith, l)) c.tenant-item.is) (c.loop-tenant.invariant digest same stored).0)
    (c.in_err-check_tenant.ensures digest same stored (c.loop-tenant.invariant digest same stored).1))

pub loop-tenant-preserved : goal.loop-tenant-preserved
loop-tenant-preserved c =
    let v = c.args.version in let os = objects_of c.args.objects.now in let last = option_map (λ o. o.now) c.loop-tenant.last in
    let ts = c.args.tenants.now in let i = c.loop-tenant.tenant-index in let t = c.tenant-item.result in
    λ digest same stored. (
      subst (λ (text : List ℕ). Leads (tenant_checks digest v os (Some text) (tenants_of (drop (i + 1) ts))) (tenant_checks digest v os None (tenants_of ts)))
          (sym c.as_slice.ensures.value)
          (tenant_on digest v os last (tenant_of t) (tenants_of (drop (i + 1) ts)) (tenant_checks digest v os None (tenants_of ts))
          (subst (λ (left : List RawTenant). Leads (tenant_checks digest v os last (tenants_of left)) (tenant_checks digest v os None (tenants_of ts)))
          (left_at ts i t (let l = c.loop-tenant-test.true in omega (arith, l)) c.tenant-item.is) (c.loop-tenant.invariant digest same stored).0)
          (c.in_ok-check_tenant.ensures digest same stored (c.loop-tenant.invariant digest same stored).1)),
      subst (λ (l : List ℕ). Passes (own_checks digest os l)) (sym c.as_slice-judged.ensures.value)
          (own_passed digest v os last (tenant_of t) (c.in_ok-check_tenant.ensures digest same stored (c.loop-tenant.invariant digest same stored).1)),
    )

pub loop-tenant-init : goal.loop-tenant-init
loop-tenant-init c =
    let v = c.args.version in let os = objects_of c.args.objects.now in let ts = c.args.tenants.now in
    λ digest same stored. (leads_same (tenant_checks digest v os None (tenants_of ts)), none_judged digest os)

use Rattle.std.proofs.Common.{List, [], ℕ, None, Some, ◌+◌, ◌∙◌, drop, sym, subst, arith}
use Rattle.std.specs.Prelude.{All}
use Rattle.std.specs.Option.{option_map}
use Rattle.std.proofs.lemmas.List.{drop_all}
use Rattle.std.proofs.lemmas.List.Elements.{All-append, All-cons, All-nil}
use Rattle.pool_file_format.specs.declared.raw.RawTenant.{RawTenant}
use Rattle.pool_file_format.specs.Shown.{objects_of, tenant_of, tenants_of}
use Rattle.pool_file_checks.specs.Held.{numbers_of}
use Rattle.pool_file_checks.specs.Objects.{IsContent}
use Rattle.pool_file_checks.specs.Own.{content_at, own_objects}
use Rattle.pool_file_checks.specs.Quick.{AreFound, AreSums}
use Rattle.pool_file_checks.specs.Whole.{tenant_checks}
use Rattle.pool_file_checks.proofs.CheckLemmas.{Leads, leads_same}
use Rattle.pool_file_checks.proofs.TenantLemmas.{left_at}
use Rattle.pool_file_checks.proofs.WholeLemmas.{tenant_on}
use Rattle.pool_file_checks.specs.Fronts.{IsFront}
use Rattle.tenant_tables.specs.declared.summary.Summary.{Summary}
use Rattle.pool_file_checks.proofs.FrontLemmas.{front_found, front_sums}
use Rattle.pool_file_checks.proofs.QuickLemmas.{contents_on}
use Rattle.pool_file_checks.proofs.quick.pass_tenants.Goals as goal

pub loop-tenant-init : goal.loop-tenant-init
loop-tenant-init c =
    let v = c.args.version in let os = objects_of c.args.objects.now in let ts = c.args.tenants.now in
    λ digest same. (leads_same (tenant_checks digest v os None (tenants_of ts)), (λ all. all, (subst (All (IsFront digest os)) (sym c.new-fronts.ensures.items) (All-nil (IsFront digest os)), c.none-known.ensures digest os)))

pub loop-tenant-preserved : goal.loop-tenant-preserved
loop-tenant-preserved c =
    let v = c.args.version in let os = objects_of c.args.objects.now in let last = option_map (λ o. o.now) c.loop-tenant.last in
    let ts = c.args.tenants.now in let i = c.loop-tenant.tenant-index in let t = c.tenant-item.result in
    let left = left_at ts i t (let l = c.loop-tenant-test.true in omega (arith, l)) c.tenant-item.is in
    λ digest same.
    let before = c.loop-tenant.invariant digest same in
    let taken = c.in_ok-front.ensures digest os before.1.1.0 in
    let passed = c.in_ok-pass_tenant.ensures.front digest same taken.1 in
    let found = subst (AreFound digest os) passed.1 (front_found digest os _ passed.0) in (
      subst (λ (text : List ℕ). Leads (tenant_checks digest v os (Some text) (tenants_of (drop (i + 1) ts))) (tenant_checks digest v os None (tenants_of ts)))
          (sym c.as_slice.ensures.value)
          (tenant_on digest v os last (tenant_of t) (tenants_of (drop (i + 1) ts)) (tenant_checks digest v os None (tenants_of ts))
          (subst (λ (l : List RawTenant). Leads (tenant_checks digest v os last (tenants_of l)) (tenant_checks digest v os None (tenants_of ts))) left before.0)
          (c.in_ok-pass_tenant.ensures.checks digest same taken.1)),
      (
        contents_on os (tenant_of t) (tenants_of (drop (i + 1) ts)) (All (λ n. IsContent (content_at os n)) (numbers_of (tenants_of ts)))
            (subst (λ (l : List RawTenant). All (λ n. IsContent (content_at os n)) (numbers_of (tenants_of l)) → All (λ n. IsContent (content_at os n)) (numbers_of (tenants_of ts))) left before.1.0)
            found.contents,
        (
          subst (All (IsFront digest os)) (sym c.in_ok-push.ensures.items)
              (All-append (IsFront digest os) _ _ taken.0 (All-cons (IsFront digest os) _ [] passed.0 (All-nil (IsFront digest os)))),
          c.in_ok-note.ensures digest os before.1.1.1
              (subst (λ (l : List Summary). AreSums [] l (own_objects digest os c.deref-in-loop-tenant.result.now)) (sym c.sums.ensures)
              (subst (λ (l : List ℕ). AreSums [] c.pass_tenant.new.front.sums.items (own_objects digest os l)) (passed.1 ∙ sym c.deref-in-loop-tenant.ensures.value) (front_sums digest os _ passed.0))),
        ),
      ),
    )

pub returns-clause-checks : goal.returns-clause-checks
returns-clause-checks c =
    let v = c.args.version in let os = objects_of c.args.objects.now in let last = option_map (λ o. o.now) c.loop-tenant.last in let ts = c.args.tenants.now in
    λ digest same. (subst (λ (l : List RawTenant). Leads (tenant_checks digest v os last (tenants_of l)) (tenant_checks digest v os None (tenants_of ts)))
    (drop_all c.loop-tenant.tenant-index ts (let t = c.loop-tenant-test.false in omega (arith, t))) (c.loop-tenant.invariant digest same).0).passes tt

pub returns-clause-contents : goal.returns-clause-contents
returns-clause-contents c =
    let os = objects_of c.args.objects.now in let ts = c.args.tenants.now in
    λ digest same. (c.loop-tenant.invariant digest same).1.0
    (subst (λ (l : List RawTenant). All (λ n. IsContent (content_at os n)) (numbers_of (tenants_of l)))
    (sym (drop_all c.loop-tenant.tenant-index ts (let t = c.loop-tenant-test.false in omega (arith, t)))) (All-nil (λ (n : ℕ). IsContent (content_at os n))))

pub returns-clause-known : goal.returns-clause-known
returns-clause-known c = λ digest same. (c.loop-tenant.invariant digest same).1.1.1

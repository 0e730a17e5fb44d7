use Rattle.std.proofs.Common.{ℕ, ◌+◌, ◌≤◌, Bool, List, ◌++◌, length, drop, refl, subst, inl, arith}
use Rattle.std.proofs.lemmas.List.{drop_all}
use Rattle.std.proofs.lemmas.Bool.{iff_false}
use Rattle.pool_file_format.specs.declared.raw.RawTenant.{RawTenant}
use Rattle.pool_file_checks.specs.Held.{numbers_of, AreMarked}
use Rattle.pool_file_format.specs.Shown.{tenants_of}
use Rattle.pool_file_checks.proofs.TenantLemmas.{left_at}
use Rattle.pool_file_checks.proofs.HeldLemmas.{Marks, marks_on, marks_end, marked_all}
use Rattle.pool_file_checks.proofs.held.check_held.Goals as goal

pub loop-tenant-preserved : goal.loop-tenant-preserved
loop-tenant-preserved c =
    let whole = numbers_of (tenants_of c.args.tenants.now) in
    marks_on c.loop-tenant.flags c.mark_all.new.flags c.args.count c.tenant-item.result.numbers.items
    (numbers_of (tenants_of (drop (c.loop-tenant.tenant-index + 1) c.args.tenants.now))) whole
    (subst (λ (ts : List RawTenant). Marks c.loop-tenant.flags c.args.count (numbers_of (tenants_of ts)) whole)
    (left_at c.args.tenants.now c.loop-tenant.tenant-index c.tenant-item.result (let t = c.loop-tenant-test.true in omega (arith, t)) c.tenant-item.is)
    c.loop-tenant.invariant)
    (λ numbers m. subst (λ (l : List ℕ). AreMarked c.mark_all.new.flags c.args.count (numbers ++ l)) c.deref.ensures.value (c.mark_all.ensures c.args.count numbers m))

-- what was marked after the loop
all_marked : (flags : List Bool) (count i : ℕ) (ts : List RawTenant) → length ts ≤ i → Marks flags count (numbers_of (tenants_of (drop i ts))) (numbers_of (tenants_of ts))
    → AreMarked flags count (numbers_of (tenants_of ts))
all_marked flags count i ts past m =
    marks_end flags count (numbers_of (tenants_of ts))
    (subst (λ (l : List RawTenant). Marks flags count (numbers_of (tenants_of l)) (numbers_of (tenants_of ts))) (drop_all i ts past) m)

pub returns-then-not-are_set : goal.returns-then-not-are_set
returns-then-not-are_set c =
    let m = all_marked c.loop-tenant.flags c.args.count c.loop-tenant.tenant-index c.args.tenants.now (let t = c.loop-tenant-test.false in omega (arith, t)) c.loop-tenant.invariant in
    inl (λ h. iff_false c.are_set.ensures c.if-not-are_set.true ((marked_all c.loop-tenant.flags c.args.count (numbers_of (tenants_of c.args.tenants.now)) m).1 h), refl)

pub returns : goal.returns
returns c =
    let m = all_marked c.loop-tenant.flags c.args.count c.loop-tenant.tenant-index c.args.tenants.now (let t = c.loop-tenant-test.false in omega (arith, t)) c.loop-tenant.invariant in
    ((marked_all c.loop-tenant.flags c.args.count (numbers_of (tenants_of c.args.tenants.now)) m).0 (c.are_set.ensures.0 c.if-not-are_set.false), tt)

use Rattle.std.proofs.Common.{◌<◌, List, ℕ, length, sym, subst}
use Rattle.std.specs.Prelude.{All, IfSome}
use Rattle.pool_file_format.specs.Shown.{tenant_of}
use Rattle.pool_file_checks.proofs.Passing.{holds}
use Rattle.pool_file.specs.declared.tenant.Tenant.{Tenant}
use Rattle.pool_file.specs.Building.{objects_at, SharesFront}
use Rattle.pool_file.proofs.Slots.{numbers_in}
use Rattle.pool_file.proofs.Built.{adds_one}
use Rattle.pool_file.proofs.building.add_tenant.Goals as goal

pub choose-shared-requires : goal.choose-shared-requires
choose-shared-requires g c =
    let pool = c.args.pool.now in
    let slots = c.args.slots.now in
    let q = c.requires.checked in
    let h = holds g.N.Naming.digest_of q.version (objects_at pool slots) q.last
    (tenant_of c.args.tenant.now) q.passes in
    subst (λ (l : List ℕ). All (λ n. n < length slots) l) (sym c.deref-2.ensures.value)
    (numbers_in pool slots c.args.tenant.now.numbers.items h.numbers)

pub build_next-requires-clause-shared : goal.build_next-requires-clause-shared
build_next-requires-clause-shared g c =
    subst (λ (ts : List Tenant). IfSome c.choose-shared.result (SharesFront c.args.slots.now c.args.tenant.now.numbers.items ts)) c.deref.ensures.value
    (subst (λ (l : List ℕ). IfSome c.choose-shared.result (SharesFront c.args.slots.now l c.deref.result.now)) c.deref-2.ensures.value
    c.choose-shared.ensures)

pub returns : goal.returns
returns g c =
    rw (c.in_ok-push.ensures.items, c.build_next.ensures.same)
    (adds_one g.N.Naming.digest_of c.args.slots.now c.args.pool.now c.build_next.new.pool
    c.args.tenants.now.items (tenant_of c.args.tenant.now) c.in_ok-built.built
    c.requires.under c.in_ok-built.ensures.builds)

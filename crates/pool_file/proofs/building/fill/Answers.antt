use Rattle.std.proofs.Common.{ℕ, List, [], sym, ap, ◌∙◌, subst}
use Rattle.std.specs.Prelude.{All}
use Rattle.pool_file_format.specs.declared.raw.RawTenant.{RawTenant as Raw}
use Rattle.pool_file_format.specs.Format.{RawObject}
use Rattle.pool_file_format.specs.Shown.{objects_of, tenant_of, tenants_of, file_of}
use Rattle.pool_file_checks.specs.Own.{names_of}
use Rattle.pool_file_checks.specs.Quick.{KnowsSums}
use Rattle.pool_file_checks.proofs.Passing.{holds_all}
use Rattle.pool_file.specs.declared.tenant.Tenant.{Tenant}
use Rattle.pool_file.specs.Building.{objects_at, IsChecked, AreUnder}
use Rattle.pool_file.proofs.Filled.{none_under, adds_again, released_again, all_checked, filled}
use Rattle.pool_file.proofs.building.fill.Goals as goal

pub store_contents-requires-clause-checked : goal.store_contents-requires-clause-checked
store_contents-requires-clause-checked g c =
    (holds_all g.N.Naming.digest_of (file_of c.args.file) c.requires.checked).objects

pub add_tenants-requires-clause-named : goal.add_tenants-requires-clause-named
add_tenants-requires-clause-named g c =
    let D = g.N.Naming.digest_of in
    c.requires.named ∙ ap (names_of D) (sym (ap (objects_at c.store_contents.new.pool) c.deref.ensures.value ∙ c.in_ok-slots.ensures.stored))

pub add_tenants-requires-clause-known : goal.add_tenants-requires-clause-known
add_tenants-requires-clause-known g c =
    subst (λ (os : List RawObject). KnowsSums g.N.Naming.digest_of os c.args.known.now)
    (sym (ap (objects_at c.store_contents.new.pool) c.deref.ensures.value ∙ c.in_ok-slots.ensures.stored)) c.requires.known

pub add_tenants-requires-clause-under : goal.add_tenants-requires-clause-under
add_tenants-requires-clause-under g c =
    let digest = g.N.Naming.digest_of in
    let pool = c.store_contents.new.pool in
    subst (λ (ts : List Tenant). AreUnder digest c.deref.result.now pool ts) (sym c.requires.none)
    (subst (λ (slots : List ℕ). AreUnder digest slots pool []) (sym c.deref.ensures.value)
    (none_under digest c.in_ok-slots.slots.items pool (objects_of c.args.file.objects.items)
    c.in_ok-slots.ensures.stored
    (holds_all digest (file_of c.args.file) c.requires.checked).objects
    c.in_ok-slots.ensures.counts))

pub add_tenants-requires-clause-checked : goal.add_tenants-requires-clause-checked
add_tenants-requires-clause-checked g c =
    let digest = g.N.Naming.digest_of in
    let stored = ap (objects_at c.store_contents.new.pool) c.deref.ensures.value
    ∙ c.in_ok-slots.ensures.stored in
    subst (λ (os : List RawObject). All (IsChecked digest os) (tenants_of c.deref-2.result.now))
    (sym stored)
    (subst (λ (ts : List Raw). All (IsChecked digest (objects_of c.args.file.objects.items)) (tenants_of ts))
    (sym c.deref-2.ensures.value)
    (all_checked digest (file_of c.args.file) g.met.N.Naming.answers_names c.requires.checked))

pub returns : goal.returns
returns g c =
    let digest = g.N.Naming.digest_of in
    let slots = c.in_ok-slots.slots.items in
    let stored = c.store_contents.new.pool in
    let q = c.add_tenants.new.pool in
    let z = c.release_contents.new.pool in
    let new = c.add_tenants.new.tenants.items in
    let both = filled digest (file_of c.args.file) g.met.N.Naming.answers_names c.requires.checked slots
    stored q z new c.in_ok-slots.ensures.stored
    (adds_again tenant_of digest c.deref.result.now slots stored q c.args.tenants.now.items new
    c.deref-2.result.now c.args.file.tenants.items c.deref.ensures.value c.requires.none
    c.deref-2.ensures.value c.in_ok-add_tenants.ensures)
    (released_again c.deref-3.result.now slots q z c.deref-3.ensures.value
    c.release_contents.ensures.counts c.release_contents.ensures.contents) in
    record { says = both.0; tenants = both.1 }

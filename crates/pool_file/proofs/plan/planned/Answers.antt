use Rattle.std.proofs.Common.{◌≡◌, ◌<◌, ℕ, List, map, sym, ap, subst, ◌∙◌}
use Rattle.std.specs.Prelude.{All}
use Rattle.pool_file_checks.specs.Repositories.{listed_contents, raw_tenant}
use Rattle.pool_file.specs.declared.content.ListedContent.{ListedContent}
use Rattle.pool_file.specs.declared.tenant_view.TenantView.{TenantView}
use Rattle.pool_file.specs.Worth.{AllStand, named_in}
use Rattle.pool_file.specs.Lent.{objects_lent}
use Rattle.pool_file.specs.Slots.{AreOnce, IsNumbered, NumbersSlots, all_slots}
use Rattle.pool_file.proofs.Numbered.{numbers_are, objects_are, within_numbers}
use Rattle.pool_file.proofs.Planning.{file_so}
use Rattle.pool_file.proofs.plan.planned.Goals as goal

pub listed_contents-requires : goal.listed_contents-requires
listed_contents-requires g c =
    subst (AllStand g.N.Naming.digest_of c.args.pool.now) (sym c.deref.ensures.value)
    (c.in_ok-saved.ensures.stand g.N.Naming.digest_of c.args.pool.now c.requires)

pub numbers_by_slot-requires-clause-within : goal.numbers_by_slot-requires-clause-within
numbers_by_slot-requires-clause-within g c =
    subst (All (λ x. x.slot < c.in_ok-listing.listing.slots)) (sym c.deref-2.ensures.value)
    c.in_ok-listing.ensures.within

pub numbers_by_slot-requires-clause-once : goal.numbers_by_slot-requires-clause-once
numbers_by_slot-requires-clause-once g c =
    subst AreOnce (sym c.deref-2.ensures.value) c.in_ok-listing.ensures.listed.once

pub raw_tenants-requires : goal.raw_tenants-requires
raw_tenants-requires g c =
    let pool = c.args.pool.now in
    let saved = c.deref.result.now in
    let all = numbers_are pool saved c.in_ok-listing.listing.contents.items c.in_ok-listing.ensures.listed
    c.in_ok-listing.ensures.order c.in_ok-numbers.numbers.items
    (subst (λ (l : List ListedContent). NumbersSlots l c.in_ok-numbers.numbers.items) c.deref-2.ensures.value
    c.in_ok-numbers.ensures) in
    within_numbers pool (listed_contents (map (named_in pool) saved)) c.in_ok-numbers.numbers.items
    c.deref-3.result.now saved c.deref-4.result.now c.deref-3.ensures.value
    (c.deref-4.ensures.value ∙ sym c.deref.ensures.value) all

pub returns : goal.returns
returns g c =
    let pool = c.args.pool.now in
    let saved = c.deref.result.now in
    let cs = listed_contents (map (named_in pool) saved) in
    let contents = c.in_ok-listing.listing.contents.items in
    let are = c.in_ok-listing.ensures.listed in
    let order = c.in_ok-listing.ensures.order in
    let same : c.deref-4.result.now ≡ saved = c.deref-4.ensures.value ∙ sym c.deref.ensures.value in
    let all = numbers_are pool saved contents are order c.in_ok-numbers.numbers.items
    (subst (λ (l : List ListedContent). NumbersSlots l c.in_ok-numbers.numbers.items) c.deref-2.ensures.value
    c.in_ok-numbers.ensures) in
    let numbered : All (IsNumbered pool cs c.deref-3.result.now) (all_slots c.deref-4.result.now) =
    subst (λ (l : List ℕ). All (IsNumbered pool cs l) (all_slots c.deref-4.result.now)) (sym c.deref-3.ensures.value)
    (subst (λ (l : List TenantView). All (IsNumbered pool cs c.in_ok-numbers.numbers.items) (all_slots l)) (sym same) all) in
    file_so pool c.args.tenants.now saved c.in_ok-objects.objects.items c.in_ok-tenants.tenants.items
    (ap (map (named_in pool)) c.deref.ensures.value ∙ c.in_ok-saved.ensures.saved pool)
    (c.in_ok-objects.ensures ∙ ap objects_lent c.deref-5.ensures.value ∙ objects_are pool saved contents are order)
    (c.in_ok-tenants.ensures pool cs numbered ∙ ap (λ (l : List TenantView). map (raw_tenant cs) (map (named_in pool) l)) same)

-- Sums of sizes over the objects of a table, and which contents are held once.
use Rattle.std.proofs.Common.{◌≡◌, ℕ, zero, suc, ◌+◌, ◌<◌, ◌==◌, Bool, true, false, cond, List, [], ◌∷◌, ◌++◌, length, min, take, map, None, Some, slice_get, get_or, option_map, sum_by, refl, sym, ap, subst, ◌∙◌, arith}
use Rattle.std.specs.Prelude.{filter_map, ◌-◌, ◌^◌}
use Rattle.std.proofs.lemmas.Bool.Decides.{nat_tests}
use Rattle.std.proofs.lemmas.List.{map-append, map_more}
use Rattle.std.proofs.lemmas.List.Sums.{sum_by-cons, sum_by_more}
use Rattle.std.proofs.lemmas.Option.{get_or_from_slice_get, slice_get_within}
use Rattle.git_model.specs.Content.{Content, same_content}
use Rattle.git_model.specs.RefStore.{listed_refs}
use Rattle.git_model.specs.Repository.{Object}
use Rattle.content_pool.specs.Pool.{Cells, content_of, holds, content, IsLive, HoldsEachOnce}
use Rattle.content_pool.specs.declared.stored.Stored.{Stored}
use Rattle.content_pool.proofs.StoredLemmas.{same_content-decides}
use Rattle.tenant_tables.specs.IsBackedBy.{IsBackedBy}
use Rattle.tenant_tables.specs.View.{Entries}
use Rattle.tenant_tables.specs.declared.entry.Entry.{Entry}
use Rattle.tenant_tables.specs.Objects.{objects}
use Rattle.pool_file.specs.declared.tenant_view.TenantView.{TenantView}
use Rattle.pool_file.specs.Worth.{AllStand, named_in}
use Rattle.tenant_service.specs.declared.sizes.TenantSizes.{TenantSizes}
use Rattle.tenant_service.specs.Sizes.{own_size, size, sizes_by, sizes_told, total}
use Rattle.tenant_service.specs.Tenants.{holds_of}

-- ---- a content that one slot alone has is held as often as that slot

abbrev NoneHas : Cells → Content → Type 0
NoneHas p c = (t : ℕ) → IsLive p t → content p t ≡ c → ⊥

none-held : (p : Cells) (c : Content) → NoneHas p c → holds_of p c ≡ 0
unfolding holds content
none-held [] c none = refl
none-held (None ∷ p) c none = none-held p c (λ t. none (suc t))
none-held (Some e ∷ p) c none =
    sum_by-cons (λ (x : Stored). cond (same_content c (content_of x)) x.holds 0) e (filter_map (λ o. o) p)
    ∙ by (same_content c (content_of e)) refl e.holds refl (none-held p c (λ t. none (suc t)))
  where
    by : (b : Bool) → same_content c (content_of e) ≡ b → (n : ℕ) → e.holds ≡ n → holds_of p c ≡ 0
        → cond b n 0 + holds_of p c ≡ 0
    by true same zero counted rest = omega (arith, rest)
    by true same (suc n) counted rest =
        absurd (none 0 (let k = counted in omega (arith, k)) (sym ((same_content-decides c (content_of e)).0 same)))
    by false other n counted rest = omega (arith, rest)

pub held-once : (p : Cells) (c : Content) (s : ℕ) → IsLive p s → content p s ≡ c
    → ((t : ℕ) → IsLive p t → content p t ≡ c → t ≡ s) → holds_of p c ≡ holds p s
unfolding holds content
held-once [] c s live has once = absurd (omega (arith, live))
held-once (None ∷ p) c zero live has once = absurd (omega (arith, live))
held-once (None ∷ p) c (suc s) live has once =
    held-once p c s live has (λ t l h. let same = once (suc t) l h in omega (arith, same))
held-once (Some e ∷ p) c zero live has once =
    sum_by-cons (λ (x : Stored). cond (same_content c (content_of x)) x.holds 0) e (filter_map (λ o. o) p)
    ∙ (let same = (same_content-decides c (content_of e)).1 (sym has) in
    let none = none-held p c (λ t l h. let bad = once (suc t) l h in absurd (omega (arith, bad))) in
    ap (λ (b : Bool). cond b e.holds 0 + holds_of p c) same ∙ (omega (arith, none)))
held-once (Some e ∷ p) c (suc s) live has once =
    sum_by-cons (λ (x : Stored). cond (same_content c (content_of x)) x.holds 0) e (filter_map (λ o. o) p)
    ∙ by (same_content c (content_of e)) refl e.holds refl
    (held-once p c s live has (λ t l h. let same = once (suc t) l h in omega (arith, same)))
  where
    by : (b : Bool) → same_content c (content_of e) ≡ b → (n : ℕ) → e.holds ≡ n → holds_of p c ≡ holds p s
        → cond b n 0 + holds_of p c ≡ holds p s
    by true same zero counted rest = omega (arith, rest)
    by true same (suc n) counted rest =
        let bad = once 0 (let k = counted in omega (arith, k)) (sym ((same_content-decides c (content_of e)).0 same)) in
        absurd (omega (arith, bad))
    by false other n counted rest = omega (arith, rest)

pub slot-held : (p : Cells) (s : ℕ) → HoldsEachOnce p → IsLive p s → holds_of p (content p s) ≡ holds p s
slot-held p s once live = held-once p (content p s) s live refl (λ t l h. once t s l live h)

-- ---- sums

abbrev told : List ℕ × Entry → List ℕ × ℕ
told e = (e.0, e.1.slot)

object_told : (pool : Cells) (es : Entries) (place : ℕ) (id : List ℕ) (slot : ℕ)
    → Some (id, slot) ≡ option_map told (slice_get es place)
    → Some (record { id = id; content = content pool slot }) ≡ slice_get (objects pool es) place
unfolding objects
object_told pool [] place id slot at = cc
object_told pool (e ∷ es) zero id slot at =
    ap (option_map (λ (r : List ℕ × ℕ). record { id = r.0; content = content pool r.1 })) at
object_told pool (e ∷ es) (suc place) id slot at = object_told pool es place id slot at

pub sum-told : (f : Object → ℕ) (pool : Cells) (es : Entries) (place : ℕ) (id : List ℕ) (slot : ℕ)
    → Some (id, slot) ≡ option_map told (slice_get es place)
    → sum_by f (take (place + 1) (objects pool es))
    ≡ sum_by f (take place (objects pool es)) + f (record { id = id; content = content pool slot })
sum-told f pool es place id slot at =
    let o : Object = record { id = id; content = content pool slot } in
    let there = sym (object_told pool es place id slot at) in
    sum_by_more f (objects pool es) place o (slice_get_within (objects pool es) place o there)
    ∙ ap (λ (x : Object). sum_by f (take place (objects pool es)) + f x)
    (get_or_from_slice_get (objects pool es) place o o there)

-- a sum that saturates goes on from where it stands
pub total-told : (f : Object → ℕ) (pool : Cells) (es : Entries) (place : ℕ) (id : List ℕ) (slot n now after : ℕ)
    → Some (id, slot) ≡ option_map told (slice_get es place)
    → f (record { id = id; content = content pool slot }) ≡ n
    → now ≡ total f (take place (objects pool es)) → after ≡ min (now + n) (2 ^ 64 - 1)
    → after ≡ total f (take (place + 1) (objects pool es))
total-told f pool es place id slot n now after at is before more =
    let sum = sum-told f pool es place id slot at in omega (arith, sum, is, before, more)

-- of what is in a slot: all of it if the slot is held once, and else nothing
pub own-here : (pool : Cells) (slot n : ℕ) → HoldsEachOnce pool → IsLive pool slot
    → holds pool slot ≡ 1 → length (content pool slot).bytes ≡ n
    → cond (holds_of pool (content pool slot) == 1) (length (content pool slot).bytes) 0 ≡ n
own-here pool slot n once live is size_is =
    ap (λ (k : ℕ). cond (k == 1) (length (content pool slot).bytes) 0) (slot-held pool slot once live ∙ is)
    ∙ size_is

pub own-elsewhere : (pool : Cells) (slot : ℕ) → HoldsEachOnce pool → IsLive pool slot
    → (holds pool slot ≡ 1 → ⊥)
    → cond (holds_of pool (content pool slot) == 1) (length (content pool slot).bytes) 0 ≡ 0
own-elsewhere pool slot once live several =
    ap (λ (k : ℕ). cond (k == 1) (length (content pool slot).bytes) 0) (slot-held pool slot once live)
    ∙ by (holds pool slot == 1) refl
  where
    by : (b : Bool) → (holds pool slot == 1) ≡ b → cond b (length (content pool slot).bytes) 0 ≡ 0
    by true same = absurd (several (grind (arith, nat_tests, same)))
    by false other = refl

pub total-kept : (f : Object → ℕ) (pool : Cells) (es : Entries) (place : ℕ) (id : List ℕ) (slot now after : ℕ)
    → Some (id, slot) ≡ option_map told (slice_get es place)
    → f (record { id = id; content = content pool slot }) ≡ 0
    → now ≡ total f (take place (objects pool es)) → after ≡ now
    → after ≡ total f (take (place + 1) (objects pool es))
total-kept f pool es place id slot now after at is before same =
    let sum = sum-told f pool es place id slot at in omega (arith, sum, is, before, same)

-- ---- all tenants

pub stands-at : (digest : List ℕ → List ℕ) (pool : Cells) (ss : List TenantView) (i : ℕ) (s : TenantView)
    → AllStand digest pool ss → i < length ss → s ≡ get_or ss i s
    → IsBackedBy digest pool s.table.now.entries
stands-at digest pool [] i s all l is = absurd (omega (arith, l))
stands-at digest pool (x ∷ xs) zero s all l is =
    subst (λ (v : TenantView). IsBackedBy digest pool v.table.now.entries) (sym is) all.0
stands-at digest pool (x ∷ xs) (suc i) s all l is = stands-at digest pool xs i s all.1 (omega (arith, l)) is

pub sizes-more : (pool : Cells) (ss : List TenantView) (now new : List TenantSizes) (one : TenantSizes) (i : ℕ) (s : TenantView)
    → map sizes_told now ≡ map (sizes_by (holds_of pool)) (map (named_in pool) (take i ss))
    → i < length ss → s ≡ get_or ss i s → new ≡ now ++ one ∷ []
    → sizes_told one ≡ sizes_by (holds_of pool) (named_in pool s)
    → map sizes_told new ≡ map (sizes_by (holds_of pool)) (map (named_in pool) (take (i + 1) ss))
sizes-more pool ss now new one i s before l is pushed told_is =
    ap (map sizes_told) pushed ∙ map-append sizes_told now (one ∷ [])
    ∙ (λ j. before j ++ told_is j ∷ [])
    ∙ ap (λ (x : TenantView). map (sizes_by (holds_of pool)) (map (named_in pool) (take i ss)) ++ sizes_by (holds_of pool) (named_in pool x) ∷ []) is
    ∙ sym (ap (map (sizes_by (holds_of pool))) (map_more (named_in pool) ss i s l)
    ∙ map-append (sizes_by (holds_of pool)) (map (named_in pool) (take i ss)) (named_in pool (get_or ss i s) ∷ []))

-- ---- one tenant

pub sizes-seen : (pool : Cells) (s : TenantView) (name : List ℕ) (count bytes own refs : ℕ) → name ≡ s.name.now
    → count ≡ length (named_in pool s).repository.objects
    → bytes ≡ total size (named_in pool s).repository.objects
    → own ≡ total (own_size (holds_of pool)) (named_in pool s).repository.objects
    → refs ≡ length (listed_refs s.refs.now)
    → record { tenant = name; objects = count; bytes = bytes; own_bytes = own; refs = refs }
    ≡ sizes_by (holds_of pool) (named_in pool s)
sizes-seen pool s name count bytes own refs name_is count_is bytes_are own_are refs_are =
    λ i. record { tenant = name_is i; objects = count_is i; bytes = bytes_are i; own_bytes = own_are i; refs = refs_are i }

-- The counts of the pool are numbers of tenants, for good objects have each content once.
use Rattle.std.proofs.Common.{◌≡◌, ℕ, zero, suc, ◌+◌, ◌<◌, ◌≤◌, ◌||◌, Bool, true, false, cond, true≢false, List, [], ◌∷◌, length, map, refl, sym, ap, subst, ◌∙◌, inl, inr, arith}
use Rattle.std.specs.Prelude.{All, count_by}
use Rattle.std.specs.List.{AllByRecursion, IsDistinct}
use Rattle.std.specs.Map.{keys_of}
use Rattle.std.specs.Option.{unwrap_or}
use Rattle.std.specs.Set.{is_member}
use Rattle.std.specs.Str.{bytes_eq}
use Rattle.std.proofs.lemmas.Bool.{cases_Bool}
use Rattle.std.proofs.lemmas.List.Elements.{All-head, All-tail}
use Rattle.std.proofs.lemmas.List.Sums.{sum_by-cons}
use Rattle.std.proofs.lemmas.Slice.Eq.{bytes_eq-Decides}
use Rattle.git_model.specs.Content.{Content, name_by, same_content}
use Rattle.git_model.specs.Repository.{Object}
use Rattle.git_model.specs.References.{place_of, object_at}
use Rattle.git_model.specs.GoodRepository.{AreObjects, IsObject}
use Rattle.git_model.proofs.Places.{first_place, later_place, first_object, later_object}
use Rattle.content_pool.specs.Pool.{Cells, holds}
use Rattle.content_pool.proofs.StoredLemmas.{same_content-decides}
use Rattle.tenant_tables.specs.View.{held}
use Rattle.pool_file_checks.proofs.Members.{Has}
use Rattle.import_session.specs.Stream.{Runs, Refused}
use Rattle.tenant_service.specs.declared.tenant.Tenant.{Tenant}
use Rattle.tenant_service.specs.TenantState.{TenantState, TenantStates, Idle, Busy, empty_repository}
use Rattle.tenant_service.specs.Soundness.{IsSoundTenantState}
use Rattle.tenant_service.specs.HeldObjects.{held_objects, tenants_with}
use Rattle.tenant_service.specs.Tenants.{Tenants, Stands, Accounts, AreSound, CountsTenants, all_held, holding_in, holdings}
use Rattle.tenant_service.proofs.BackLemmas.{found-once}
use Rattle.tenant_service.proofs.SlotSums.{over, holds-over, over-same, over-none, over-sum, over-entries}
use Rattle.tenant_service.proofs.StoredLemmas.{held_objects-in}

-- ---- good objects

abbrev contents : List Object → List Content
contents os = map (λ (o : Object). o.content) os

abbrev AreNamed : (List ℕ → List ℕ) → List Object → Type 0
AreNamed digest os = AllByRecursion (λ (o : Object). o.id ≡ name_by digest o.content) os

named-all : (digest : List ℕ → List ℕ) (every os : List Object) → All (IsObject digest every) os
    → AreNamed digest os
named-all digest every [] h = tt
named-all digest every (o ∷ os) h = (
  (All-head (IsObject digest every) o os h).named,
  named-all digest every os (All-tail (IsObject digest every) o os h),
)

abbrev ArePlaced : List Object → Type 0
ArePlaced os = (i : ℕ) → i < length os → place_of (object_at i os).id os ≡ i

-- an object has another name than each later one
named-apart : (o : Object) (os : List Object) → ArePlaced (o ∷ os) → (i : ℕ) → i < length os
    → bytes_eq (object_at i os).id o.id ≡ false
named-apart o os placed i within = elim (cases_Bool (bytes_eq (object_at i os).id o.id)) [
  | inl same ↦
      let at = placed (suc i) (omega (arith, within)) in
      let here : place_of (object_at (suc i) (o ∷ os)).id (o ∷ os) ≡ 0 =
      ap (λ (x : Object). place_of x.id (o ∷ os)) (later_object i o os) ∙ first_place (object_at i os).id o os same in
      absurd (omega (arith, at, here))
  | inr other ↦ other
]

placed-later : (o : Object) (os : List Object) → ArePlaced (o ∷ os) → ArePlaced os
placed-later o os placed i within =
    let at = placed (suc i) (omega (arith, within)) in
    let there : place_of (object_at (suc i) (o ∷ os)).id (o ∷ os) ≡ suc (place_of (object_at i os).id os) =
    ap (λ (x : Object). place_of x.id (o ∷ os)) (later_object i o os)
    ∙ later_place (object_at i os).id o os (named-apart o os placed i within) in
    omega (arith, at, there)

-- so none of these has the content of an object whose name they do not have
absent : (digest : List ℕ → List ℕ) (o : Object) (os : List Object) → AreNamed digest os
    → o.id ≡ name_by digest o.content
    → ((i : ℕ) → i < length os → bytes_eq (object_at i os).id o.id ≡ false)
    → (c : Content) → c ≡ o.content → count_by (same_content c) (contents os) ≡ 0
absent digest o [] named own apart c is = refl
absent digest o (x ∷ xs) named own apart c is =
    sum_by-cons (λ (d : Content). cond (same_content c d) 1 0) x.content (contents xs)
    ∙ by (same_content c x.content) refl
    (absent digest o xs named.1 own
    (λ i within. subst (λ (y : Object). bytes_eq y.id o.id ≡ false) (later_object i x xs)
    (apart (suc i) (omega (arith, within)))) c is)
  where
    by : (b : Bool) → same_content c x.content ≡ b → count_by (same_content c) (contents xs) ≡ 0
        → cond b 1 0 + count_by (same_content c) (contents xs) ≡ 0
    by true same none =
        let alike : x.id ≡ o.id =
        named.0 ∙ ap (name_by digest) (sym ((same_content-decides c x.content).0 same) ∙ is) ∙ sym own in
        let differs = subst (λ (y : Object). bytes_eq y.id o.id ≡ false) (first_object x xs) (apart zero (omega arith)) in
        absurd (true≢false (sym ((bytes_eq-Decides x.id o.id).1 alike) ∙ differs))
    by false other none = omega (arith, none)

-- whether a content is there is how often it is
count-member : (digest : List ℕ → List ℕ) (os : List Object) → AreNamed digest os → ArePlaced os
    → (c : Content)
    → count_by (same_content c) (contents os) ≡ cond (is_member same_content (contents os) c) 1 0
count-member digest [] named placed c = refl
count-member digest (o ∷ os) named placed c =
    sum_by-cons (λ (d : Content). cond (same_content c d) 1 0) o.content (contents os)
    ∙ by (same_content c o.content) refl (count-member digest os named.1 (placed-later o os placed) c)
  where
    by : (b : Bool) → same_content c o.content ≡ b
        → count_by (same_content c) (contents os) ≡ cond (is_member same_content (contents os) c) 1 0
        → cond b 1 0 + count_by (same_content c) (contents os)
        ≡ cond (b || is_member same_content (contents os) c) 1 0
    by true same rest =
        let none =
        absent digest o os named.1 named.0 (named-apart o os placed) c
        ((same_content-decides c o.content).0 same) in
        omega (arith, none)
    by false other rest = omega (arith, rest)

once-among : (digest : List ℕ → List ℕ) (os : List Object) → AreObjects digest os → (c : Content)
    → count_by (same_content c) (contents os) ≡ cond (is_member same_content (contents os) c) 1 0
once-among digest os good c = count-member digest os (named-all digest os os good.each) good.distinct c

-- ---- tenants

objects-sound : (digest : List ℕ → List ℕ) (h : TenantState) → IsSoundTenantState digest h
    → AreObjects digest (held_objects h)
objects-sound digest (Idle repository) sound = sound.objects
objects-sound digest (Busy opened (Runs now tail)) sound = sound.1.objects
objects-sound digest (Busy opened (Refused code repository)) sound = sound.1.objects

of-one : (digest : List ℕ → List ℕ) (p : Cells) (t : Tenant)
    → ((s : ℕ) → held t.table.entries s ≤ holds p s) → IsSoundTenantState digest (holding_in p t)
    → (c : Content) → over p c (held t.table.entries)
    ≡ cond (is_member same_content (contents (held_objects (holding_in p t))) c) 1 0
of-one digest p t counted sound c =
    over-entries p c t.table.entries counted
    ∙ ap (λ (os : List Object). count_by (same_content c) (contents os))
    (sym (held_objects-in t.phase p t.table t.refs))
    ∙ once-among digest (held_objects (holding_in p t))
    (objects-sound digest (holding_in p t) sound) c

of-all : (digest : List ℕ → List ℕ) (p : Cells) (es : Tenants)
    → AllByRecursion (λ e. Stands digest p e.1) es
    → AllByRecursion (λ e. IsSoundTenantState digest (holding_in p e.1)) es
    → (c : Content) → over p c (all_held es) ≡ tenants_with c (holdings p es)
of-all digest p [] stands sound c = over-none p c
of-all digest p (e ∷ es) stands sound c =
    let one = of-one digest p e.1 stands.0.entries.counted sound.0 c in
    let rest = of-all digest p es stands.1 sound.1 c in
    over-same p c (all_held (e ∷ es)) (λ s. held e.1.table.entries s + all_held es s)
    (λ s. sum_by-cons (λ (x : List ℕ × Tenant). held x.1.table.entries s) e es)
    ∙ over-sum p c (held e.1.table.entries) (all_held es)
    ∙ (λ i. one i + rest i)
    ∙ sym (sum_by-cons
    (λ (x : List ℕ × TenantState). cond (is_member same_content (contents (held_objects x.1)) c) 1 0)
    (e.0, holding_in p e.1) (holdings p es))

sound-each : (digest : List ℕ → List ℕ) (all : TenantStates) → IsDistinct bytes_eq (keys_of all)
    → AreSound digest all → (e : List ℕ × TenantState) → Has all e → IsSoundTenantState digest e.1
sound-each digest all distinct sound e h =
    subst (λ (x : TenantState). IsSoundTenantState digest x)
    (ap (λ o. unwrap_or o (Idle empty_repository)) (found-once all e distinct h)) (sound e.0)

sound-all : (digest : List ℕ → List ℕ) (p : Cells) (es : Tenants)
    → ((e : List ℕ × TenantState) → Has (holdings p es) e → IsSoundTenantState digest e.1)
    → AllByRecursion (λ e. IsSoundTenantState digest (holding_in p e.1)) es
sound-all digest p [] each = tt
sound-all digest p (e ∷ es) each =
    (each (e.0, holding_in p e.1) (inl refl), sound-all digest p es (λ x h. each x (inr h)))

-- the pool holds a content as often as there are tenants that have it
pub counts-tenants : (digest : List ℕ → List ℕ) (p : Cells) (es : Tenants) (all : TenantStates)
    → Accounts digest p es → AreSound digest (holdings p es) → holdings p es ≡ all
    → IsDistinct bytes_eq (keys_of all) → CountsTenants p all
counts-tenants digest p es all h sound is distinct =
    subst (λ (x : TenantStates). CountsTenants p x) is
    (λ c. holds-over p c ∙ over-same p c (holds p) (all_held es) h.counts
    ∙ of-all digest p es h.stands
    (sound-all digest p es (sound-each digest (holdings p es)
    (subst (λ (x : TenantStates). IsDistinct bytes_eq (keys_of x)) (sym is) distinct) sound)) c)

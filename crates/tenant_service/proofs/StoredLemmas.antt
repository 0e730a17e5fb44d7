-- What is stored, and who has committed objects.
use Rattle.std.proofs.Common.{◌≡◌, ℕ, zero, suc, ◌+◌, ◌<◌, ltb, Bool, cond, List, [], ◌∷◌, length, take, map, ◌==◌, None, Some, slice_get, refl, sym, ap, subst, ◌∙◌, arith, add-one, inl, inr, ◌⊎◌, get_or, Contains}
use Rattle.std.specs.Prelude.{count_by}
use Rattle.std.specs.List.{AllByRecursion}
use Rattle.std.specs.Map.{lookup, keys_of}
use Rattle.std.specs.Str.{bytes_eq}
use Rattle.git_model.specs.RefStore.{RefStore}
use Rattle.std.proofs.lemmas.Bool.{cases_eq}
use Rattle.std.proofs.lemmas.Bool.Decides.{nat_tests}
use Rattle.std.proofs.lemmas.List.{length-take}
use Rattle.std.proofs.lemmas.List.Sums.{sum_by-cons}
use Rattle.std.proofs.lemmas.List.Elements.{Contains-append_left, Contains-append_right, Contains-append_cases}
use Rattle.git_model.specs.Content.{Content}
use Rattle.git_model.specs.Repository.{Object}
use Rattle.content_pool.specs.Pool.{Cells, content}
use Rattle.content_pool.specs.LiveContents.{ListsLive}
use Rattle.tenant_tables.specs.View.{View, Entries, held}
use Rattle.tenant_tables.specs.Objects.{objects}
use Rattle.tenant_tables.proofs.HoldLemmas.{held-nil, held-cons, held-head, held-tail}
use Rattle.tenant_tables.proofs.TableLemmas.{length-objects}
use Rattle.tenant_service.specs.declared.tenant.OpenStream.{OpenStream}
use Rattle.tenant_service.specs.declared.tenant.OpenStream.TheVariants as phase
use Rattle.tenant_service.specs.declared.tenant.Tenant.{Tenant}
use Rattle.tenant_service.specs.TenantState.{TenantState, TenantStates, Idle, empty_repository, held_of}
use Rattle.tenant_service.specs.HeldObjects.{held_objects, held_contents, has_committed_object}
use Rattle.tenant_service.specs.Tenants.{Tenants, Stands, IsSettled, Accounts, held_in, holding_in, holdings, all_held, has_committed, Shows}
use Rattle.tenant_service.proofs.TenantLemmas.{all_committed}
use Rattle.tenant_service.proofs.AccountLemmas.{stands-found, held-found, held-missing}

-- ---- contents of entries

Contains-cons : {X : Type 0} (head x : X) (rest : List X) → Contains rest x → Contains (head ∷ rest) x
Contains-cons head x rest p = (suc p.0, omega (arith, p.1), p.2)

Contains-cons_cases : {X : Type 0} (head x : X) (rest : List X) → Contains (head ∷ rest) x → (head ≡ x) ⊎ Contains rest x
Contains-cons_cases {X} head x rest p = by_index p.0 p.1 p.2
  where
    by_index : (k : ℕ) → k < suc (length rest) → get_or (head ∷ rest) k x ≡ x → (head ≡ x) ⊎ Contains rest x
    by_index zero within found = inl found
    by_index (suc k) within found = inr (k, omega (arith, within), found)

contents_in : Cells → Entries → List Content
contents_in p es = map (λ (o : Object). o.content) (objects p es)

in_entries : (p : Cells) (es : Entries) (s : ℕ) → 0 < held es s → Contains (map (λ (o : Object). o.content) (objects p es)) (content p s)
unfolding objects
in_entries p [] s some = let z = held-nil s in absurd (omega (arith, z))
in_entries p (x ∷ es) s some =
    elim (cases_eq x.1.slot s) [
      | inl here ↦ (zero, omega arith, ap (content p) here)
      | inr other ↦
          let c = held-cons x es s in
          let none : ◌≡◌ {A = ℕ} (cond (x.1.slot == s) 1 0) 0 = grind (arith, nat_tests, other) in
          Contains-cons (content p x.1.slot) (content p s) _ (in_entries p es s (omega (arith, c, none)))
    ]

of_entries : (p : Cells) (es : Entries) (c : Content) → Contains (map (λ (o : Object). o.content) (objects p es)) c
    → (s : ℕ) × (0 < held es s) × (content p s ≡ c)
unfolding objects
of_entries p [] c listed = absurd (omega (arith, listed.1))
of_entries p (x ∷ es) c listed =
    elim (Contains-cons_cases (content p x.1.slot) c _ listed) [
      | inl here ↦ (x.1.slot, held-head x es, here)
      | inr later ↦ let at = of_entries p es c later in (at.0, (let t = held-tail x es at.0 in let a = at.1 in omega arith), at.2)
    ]

-- ---- contents of tenants

pub held_objects-in : (ph : OpenStream) (p : Cells) (t : View) (r : _) → held_objects (held_in ph p t r) ≡ objects p t.entries
held_objects-in phase.Closed p t r = refl
held_objects-in (phase.Running opened stream) p t r = refl
held_objects-in (phase.Dead opened code) p t r = refl

of-tenant : (p : Cells) (e : List ℕ × Tenant) → map (λ (o : Object). o.content) (held_objects (holding_in p e.1)) ≡ map (λ (o : Object). o.content) (objects p e.1.table.entries)
of-tenant p e = ap (map (λ (o : Object). o.content)) (held_objects-in e.1.phase p e.1.table e.1.refs)

in_tenants : (p : Cells) (es : Tenants) (s : ℕ) → 0 < all_held es s → Contains (held_contents (holdings p es)) (content p s)
in_tenants p [] s some = absurd (omega (arith, some))
in_tenants p (e ∷ es) s some =
    elim (cases_eq (held e.1.table.entries s) 0) [
      | inl none ↦
          let c = sum_by-cons (λ (x : List ℕ × Tenant). held x.1.table.entries s) e es in
          Contains-append_right _ (held_contents (holdings p es)) (content p s) (in_tenants p es s (omega (arith, c)))
      | inr more ↦
          Contains-append_left _ (held_contents (holdings p es)) (content p s)
          (subst (λ (cs : List Content). Contains cs (content p s)) (sym (of-tenant p e)) (in_entries p e.1.table.entries s (omega arith)))
    ]

of_tenants : (p : Cells) (es : Tenants) (c : Content) → Contains (held_contents (holdings p es)) c
    → (s : ℕ) × (0 < all_held es s) × (content p s ≡ c)
of_tenants p [] c listed = absurd (omega (arith, listed.1))
of_tenants p (e ∷ es) c listed =
    elim (Contains-append_cases _ (held_contents (holdings p es)) c listed) [
      | inl first ↦
          let at = of_entries p e.1.table.entries c (subst (λ (cs : List Content). Contains cs c) (of-tenant p e) first) in
          let a = at.1 in
          let k = sum_by-cons (λ (x : List ℕ × Tenant). held x.1.table.entries at.0) e es in
          (at.0, omega (arith, a, k), at.2)
      | inr later ↦
          let at = of_tenants p es c later in
          let a = at.1 in
          let k = sum_by-cons (λ (x : List ℕ × Tenant). held x.1.table.entries at.0) e es in
          (at.0, omega (arith, a, k), at.2)
    ]

-- the contents of all that tenants hold are those of the live slots
pub lists-live : (digest : List ℕ → List ℕ) (p : Cells) (es : Tenants) → Accounts digest p es → ListsLive p (held_contents (holdings p es))
lists-live digest p es h = record {
  live = λ c listed.
      let at = of_tenants p es c listed in
      let k = h.counts at.0 in let a = at.1 in (at.0, omega (arith, k, a), at.2);
  all = λ s live. in_tenants p es s (let k = h.counts s in omega (arith, k, live));
}

-- ---- committed objects

count-one : {X : Type 0} (test : X → Bool) (xs : List X) (i : ℕ) (x : X) → slice_get xs i ≡ Some x
    → count_by test (take (suc i) xs) ≡ count_by test (take i xs) + cond (test x) 1 0
count-one test [] i x h = cc h
count-one test (y ∷ xs) zero x h =
    let same : y ≡ x = cc h in
    let a = sum_by-cons (λ z. cond (test z) 1 0) y [] in
    let b : ◌≡◌ {A = ℕ} (cond (test y) 1 0) (cond (test x) 1 0) = ap (λ z. cond (test z) 1 0) same in
    omega (arith, a, b)
count-one test (y ∷ xs) (suc i) x h =
    let rest = count-one test xs i x h in
    let a = sum_by-cons (λ z. cond (test z) 1 0) y (take (suc i) xs) in
    let b = sum_by-cons (λ z. cond (test z) 1 0) y (take i xs) in
    omega (arith, rest, a, b)

pub count-next : {X : Type 0} (test : X → Bool) (xs : List X) (i : ℕ) (x : X) → slice_get xs i ≡ Some x
    → count_by test (take (i + 1) xs) ≡ count_by test (take i xs) + cond (test x) 1 0
count-next test xs i x h = ap (λ (n : ℕ). count_by test (take n xs)) (add-one i) ∙ count-one test xs i x h

same-commit : (ph : OpenStream) (p : Cells) (t : View) (r : _) → IsSettled ph t → has_committed_object (held_in ph p t r) ≡ has_committed t
same-commit phase.Closed p t r settled =
    ap (λ (n : ℕ). ltb 0 n) (length-objects p t.entries ∙ (let l = length-take t.committed t.entries in omega (arith, l, settled)))
same-commit (phase.Running opened stream) p t r settled =
    ap (λ (n : ℕ). ltb 0 n)
    (let l = length-take t.committed t.entries in let m = length-take t.committed (objects p t.entries) in let n = length-objects p t.entries in omega (arith, l, m, n))
same-commit (phase.Dead opened code) p t r settled =
    ap (λ (n : ℕ). ltb 0 n) (length-objects p t.entries ∙ (let l = length-take t.committed t.entries in omega (arith, l, settled)))

pub count-commits : (digest : List ℕ → List ℕ) (p : Cells) (es : Tenants) → AllByRecursion (λ e. Stands digest p e.1) es
    → count_by (λ (e : List ℕ × Tenant). has_committed e.1.table) es ≡ count_by (λ e. has_committed_object e.1) (holdings p es)
count-commits digest p [] all = refl
count-commits digest p (e ∷ es) all =
    let rest = count-commits digest p es all.1 in
    let a = sum_by-cons (λ (x : List ℕ × Tenant). cond (has_committed x.1.table) 1 0) e es in
    let b = sum_by-cons (λ x. cond (has_committed_object x.1) 1 0) (e.0, holding_in p e.1) (holdings p es) in
    let same : ◌≡◌ {A = ℕ} (cond (has_committed_object (holding_in p e.1)) 1 0) (cond (has_committed e.1.table) 1 0) =
    ap (λ (x : Bool). cond x 1 0) (same-commit e.1.phase p e.1.table e.1.refs all.0.settled) in
    omega (arith, rest, a, b, same)

-- ---- what the operator is shown

pub shows : (ph : OpenStream) (p : Cells) (t : View) (r : RefStore) → IsSettled ph t → Shows (held_in ph p t r) p t r
shows phase.Closed p t r settled = record { all = refl; committed = all_committed p t settled; saved = refl }
shows (phase.Running opened stream) p t r settled = record { all = refl; committed = refl; saved = refl }
shows (phase.Dead opened code) p t r settled = record { all = refl; committed = all_committed p t settled; saved = refl }

pub shows-found : (digest : List ℕ → List ℕ) (p : Cells) (name : List ℕ) (es : Tenants) (t : Tenant) (shown : TenantStates) → Accounts digest p es
    → lookup (bytes_eq name) es ≡ Some t → holdings p es ≡ shown → Shows (held_of name shown) p t.table t.refs
shows-found digest p name es t shown h got is =
    subst (λ (x : TenantState). Shows x p t.table t.refs) (sym (sym (ap (held_of name) is) ∙ held-found p name es t got))
    (shows t.phase p t.table t.refs (stands-found digest p name es t h got).settled)

pub unseen-missing : (p : Cells) (name : List ℕ) (es : Tenants) (shown : TenantStates) → lookup (bytes_eq name) es ≡ None → holdings p es ≡ shown
    → held_of name shown ≡ Idle empty_repository
unseen-missing p name es shown none is = sym (ap (held_of name) is) ∙ held-missing p name es none

-- the names are those of the tenants
pub keys-holdings : (p : Cells) (es : Tenants) → keys_of (holdings p es) ≡ keys_of es
keys-holdings p [] = refl
keys-holdings p (e ∷ es) = ap (λ (names : List (List ℕ)). e.0 ∷ names) (keys-holdings p es)

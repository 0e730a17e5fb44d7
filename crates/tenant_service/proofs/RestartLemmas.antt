-- Restarts: one tenant after the other.
use Rattle.std.proofs.Common.{◌≡◌, ℕ, zero, suc, ◌+◌, List, [], ◌∷◌, ◌++◌, length, Some, slice_get, refl, sym, ap, subst, ◌∙◌, add-one}
use Rattle.std.specs.Map.{values_of}
use Rattle.std.proofs.lemmas.List.{map-append}
use Rattle.indexmap.specs.Layout.{set_value_at}
use Rattle.content_pool.specs.Pool.{Cells}
use Rattle.tenant_tables.specs.IsBackedBy.{PreservesOthers}
use Rattle.tenant_service.specs.declared.tenant.Tenant.{Tenant}
use Rattle.tenant_service.specs.TenantState.{TenantState, TenantStates, Idle}
use Rattle.tenant_service.specs.HeldObjects.{last_held}
use Rattle.tenant_service.specs.Tenants.{Tenants, Stands, Accounts, holding_in, holdings}
use Rattle.tenant_service.specs.OneStep.{restarted, first_restarted, restarted_at}
use Rattle.tenant_service.proofs.AccountLemmas.{changed, all_parts}

pub length-holdings : (p : Cells) (es : Tenants) → length (holdings p es) ≡ length es
length-holdings p [] = refl
length-holdings p (e ∷ es) = ap (λ (n : ℕ). suc n) (length-holdings p es)

-- the tenant at a place
record Placed (es : Tenants) (i : ℕ) (old new : Tenant) : Type 0 where
  front : Tenants
  name : List ℕ
  back : Tenants
  count : length front ≡ i
  is : es ≡ front ++ (name, old) ∷ back
  set : set_value_at es i new ≡ front ++ (name, new) ∷ back

placed : (es : Tenants) (i : ℕ) (old new : Tenant) → slice_get (values_of es) i ≡ Some old → Placed es i old new
placed [] i old new h = cc h
placed (e ∷ es) zero old new h =
    let same : e.1 ≡ old = cc h in
    record { front = []; name = e.0; back = es; count = refl; is = λ j. (e.0, same j) ∷ es; set = refl }
placed (e ∷ es) (suc i) old new h =
    let rest = placed es i old new h in
    record {
      front = e ∷ rest.front;
      name = rest.name;
      back = rest.back;
      count = ap (λ (n : ℕ). suc n) rest.count;
      is = ap (λ (xs : Tenants). e ∷ xs) rest.is;
      set = ap (λ (xs : Tenants). e ∷ xs) rest.set;
    }

pub stands-placed : (digest : List ℕ → List ℕ) (p : Cells) (es : Tenants) (i : ℕ) (old : Tenant) → Accounts digest p es
    → slice_get (values_of es) i ≡ Some old → Stands digest p old
stands-placed digest p es i old h got =
    let f = placed es i old old got in
    let all = rw f.is at h.stands in
    (all_parts _ f.front ((f.name, old) ∷ f.back) all).1.0

at_length : (front back : TenantStates) (name : List ℕ) (h : TenantState)
    → restarted_at (length front) (front ++ (name, h) ∷ back) ≡ front ++ (name, Idle (last_held h)) ∷ back
at_length [] back name h = refl
at_length (e ∷ front) back name h = ap (λ (xs : TenantStates). e ∷ xs) (at_length front back name h)

-- that tenant restarted
pub record RestartedAt (digest : List ℕ → List ℕ) (p q : Cells) (es : Tenants) (i : ℕ) (new : Tenant) : Type 0 where
  pub accounts : Accounts digest q (set_value_at es i new)
  pub closed : holdings q (set_value_at es i new) ≡ restarted_at i (holdings p es)

pub restarted-placed : (digest : List ℕ → List ℕ) (p q : Cells) (es : Tenants) (i : ℕ) (old new : Tenant) → Accounts digest p es
    → slice_get (values_of es) i ≡ Some old → Stands digest q new → PreservesOthers p old.table.entries q new.table.entries
    → holding_in q new ≡ Idle (last_held (holding_in p old)) → RestartedAt digest p q es i new
restarted-placed digest p q es i old new h got stands leaves own =
    let f = placed es i old new got in
    let accounts = subst (λ (xs : Tenants). Accounts digest p xs) f.is h in
    let c = changed digest p q f.front f.back f.name old new accounts stands leaves in
    let count : length (holdings p f.front) ≡ i = length-holdings p f.front ∙ f.count in
    let shown : holdings p es ≡ holdings p f.front ++ (f.name, holding_in p old) ∷ holdings p f.back =
    ap (holdings p) f.is ∙ map-append (λ (e : List ℕ × Tenant). (e.0, holding_in p e.1)) f.front ((f.name, old) ∷ f.back) in
    record {
      accounts = rw f.set c.accounts;
      closed =
          ap (holdings q) f.set ∙ c.shown
          ∙ ap (λ (x : TenantState). holdings p f.front ++ (f.name, x) ∷ holdings p f.back) own
          ∙ sym (at_length (holdings p f.front) (holdings p f.back) f.name (holding_in p old))
          ∙ ap (λ (n : ℕ). restarted_at n (holdings p f.front ++ (f.name, holding_in p old) ∷ holdings p f.back)) count
          ∙ ap (restarted_at i) (sym shown);
    }

pub length-set_at : (es : Tenants) (i : ℕ) (new : Tenant) → length (set_value_at es i new) ≡ length es
length-set_at [] i new = refl
length-set_at (e ∷ es) zero new = refl
length-set_at (e ∷ es) (suc i) new = ap (λ (n : ℕ). suc n) (length-set_at es i new)

-- one more
next-restarted : (i : ℕ) (all : TenantStates) → restarted_at i (first_restarted i all) ≡ first_restarted (suc i) all
next-restarted zero [] = refl
next-restarted zero (e ∷ all) = refl
next-restarted (suc i) [] = refl
next-restarted (suc i) (e ∷ all) = ap (λ (xs : TenantStates). (e.0, Idle (last_held e.1)) ∷ xs) (next-restarted i all)

pub one-more : (i : ℕ) (all : TenantStates) → restarted_at i (first_restarted i all) ≡ first_restarted (i + 1) all
one-more i all = next-restarted i all ∙ ap (λ (n : ℕ). first_restarted n all) (sym (add-one i))

-- all of them
pub all-restarted : (all : TenantStates) → first_restarted (length all) all ≡ restarted all
all-restarted [] = refl
all-restarted (e ∷ all) = ap (λ (xs : TenantStates). (e.0, Idle (last_held e.1)) ∷ xs) (all-restarted all)

pub all-tenants : (p : Cells) (es : Tenants) (n : ℕ) → n ≡ length es → first_restarted n (holdings p es) ≡ restarted (holdings p es)
all-tenants p es n is =
    ap (λ (k : ℕ). first_restarted k (holdings p es)) (is ∙ sym (length-holdings p es))
    ∙ all-restarted (holdings p es)

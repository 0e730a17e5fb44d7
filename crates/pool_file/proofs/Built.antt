-- Tenants that are built one after another over a pool that changes.
use Rattle.std.proofs.Common.{◌≡◌, ℕ, zero, suc, ◌+◌, ◌<◌, ◌≤◌, ◌^◌, List, [], ◌∷◌, ◌++◌, map, length, set, Option, None, Some, refl, sym, ap, subst, ◌∙◌, append-nil, append_assoc, arith}
use Rattle.std.specs.Prelude.{All, slice_get}
use Rattle.std.specs.Option.{unwrap_or}
use Rattle.std.specs.List.{AllByRecursion}
use Rattle.std.proofs.lemmas.List.{map-append}
use Rattle.std.proofs.lemmas.List.Elements.{All-nil, All-cons}
use Rattle.std.proofs.lemmas.List.Sums.{sum_by-cons, sum_by_push}
use Rattle.git_model.specs.Repository.{Object}
use Rattle.content_pool.specs.Pool.{Cells, holds, content}
use Rattle.tenant_tables.specs.View.{Entries, held}
use Rattle.tenant_tables.specs.IsBackedBy.{IsBackedBy}
use Rattle.tenant_tables.specs.Objects.{objects}
use Rattle.tenant_tables.specs.Room.{HasHoldsLeftBeside}
use Rattle.tenant_tables.proofs.HoldLemmas.{held-nil, Keeps, objects-kept}
use Rattle.tenant_tables.proofs.TableLemmas.{IsBackedBy-kept, length-objects}
use Rattle.pool_file_format.specs.Format.{RawObject, RawTenant}
use Rattle.pool_file_checks.specs.Checks.{Passes}
use Rattle.pool_file_checks.specs.Objects.{object_checks}
use Rattle.pool_file_checks.specs.Own.{own_objects}
use Rattle.pool_file_checks.specs.Whole.{one_tenant_checks, tenant_checks}
use Rattle.pool_file_checks.specs.Repositories.{Named}
use Rattle.pool_file_checks.specs.Saved.{named_at}
use Rattle.pool_file_checks.proofs.OwnObjects.{own_length}
use Rattle.pool_file_checks.proofs.Passing.{passes_front, passes_rest}
use Rattle.pool_file.specs.declared.tenant.Tenant.{Tenant}
use Rattle.pool_file.specs.Loading.{named_in, loaded_repositories, all_held}
use Rattle.pool_file.specs.Building.{objects_at, IsChecked, IsBuilt, AreUnder, Builds, AddsTenants, SharesFront}
use Rattle.pool_file.specs.declared.relatives.Shared.{Shared}
use Rattle.pool_file.specs.Tables.{BeginAlike}
use Rattle.pool_file.proofs.Slots.{objects_at-kept}

-- ---- what tenants hold

all_held-cons : (t : Tenant) (ts : List Tenant) (s : ℕ)
    → all_held (t ∷ ts) s ≡ held t.table.entries s + all_held ts s
all_held-cons t ts s = sum_by-cons (λ (x : Tenant). held x.table.entries s) t ts

all_held-push : (ts : List Tenant) (t : Tenant) (s : ℕ)
    → all_held (ts ++ t ∷ []) s ≡ all_held ts s + held t.table.entries s
all_held-push ts t s = sum_by_push (λ (x : Tenant). held x.table.entries s) ts t

few_holds : (digest : List ℕ → List ℕ) (pool : Cells) (ts : List Tenant) (s : ℕ)
    → AllByRecursion (IsBuilt digest pool) ts → all_held ts s ≤ length ts
few_holds digest pool [] s all = omega arith
few_holds digest pool (t ∷ ts) s all =
    let one = all.0.stands.once s in
    let rest = few_holds digest pool ts s all.1 in
    rw (all_held-cons t ts s) (omega arith)

pub room_for : (digest : List ℕ → List ℕ) (slots : List ℕ) (pool : Cells) (ts : List Tenant)
    → AreUnder digest slots pool ts → length ts < 2 ^ 63 → HasHoldsLeftBeside pool []
room_for digest slots pool ts under few s =
    let counts = under.counts s in
    let once = under.once s in
    let tenants = few_holds digest pool ts s under.each in
    let none = held-nil s in
    omega arith

-- ---- tenants whose contents are kept

module _ (p q : Cells) where
  abbrev pub KeepsAll : List Tenant → Type 0
  KeepsAll ts = (s : ℕ) → 0 < all_held ts s → content q s ≡ content p s

  keeps_first : (t : Tenant) (ts : List Tenant) → KeepsAll (t ∷ ts) → Keeps p q t.table.entries
  keeps_first t ts kept =
      record { contents = λ s some. kept s (let a = all_held-cons t ts s in omega arith) }

  keeps_rest : (t : Tenant) (ts : List Tenant) → KeepsAll (t ∷ ts) → KeepsAll ts
  keeps_rest t ts kept s some = kept s (let a = all_held-cons t ts s in omega arith)

  pub said-kept : (ts : List Tenant) → KeepsAll ts → loaded_repositories q ts ≡ loaded_repositories p ts
  unfolding loaded_repositories
  said-kept [] kept = refl
  said-kept (t ∷ ts) kept =
      let here = objects-kept p q t.table.entries (keeps_first t ts kept) in
      let rest = said-kept ts (keeps_rest t ts kept) in
      λ i. record { tenant = t.name; repository = record { objects = here i; refs = t.refs } } ∷ rest i

  pub each-kept : (digest : List ℕ → List ℕ) (ts : List Tenant) → KeepsAll ts
      → ((s : ℕ) → all_held ts s ≤ holds q s) → AllByRecursion (IsBuilt digest p) ts
      → AllByRecursion (IsBuilt digest q) ts
  each-kept digest [] kept counted all = tt
  each-kept digest (t ∷ ts) kept counted all = (
    record {
      name = all.0.name;
      stands = IsBackedBy-kept digest p q t.table.entries all.0.stands (keeps_first t ts kept)
          (λ s. let a = all_held-cons t ts s in let b = counted s in omega arith);
      committed = all.0.committed;
    },
    each-kept digest ts (keeps_rest t ts kept)
        (λ s. let a = all_held-cons t ts s in let b = counted s in omega arith) all.1,
  )

-- ---- a tenant that shares its first objects

each_at : {X : Type 0} (P : X → Type 0) (xs : List X) (i : ℕ) (x : X) → AllByRecursion P xs → slice_get xs i ≡ Some x → P x
each_at P [] i x all at = cc at
each_at P (y ∷ ys) zero x all at = subst P (ap (λ (o : Option _). unwrap_or o x) at) all.0
each_at P (y ∷ ys) (suc i) x all at = each_at P ys i x all.1 at

pub one_stands : (digest : List ℕ → List ℕ) (slots : List ℕ) (pool : Cells) (all : List Tenant) (i : ℕ)
    (t : Tenant) → AreUnder digest slots pool all → slice_get all i ≡ Some t
    → IsBackedBy digest pool t.table.entries
one_stands digest slots pool all i t under at = (each_at (IsBuilt digest pool) all i t under.each at).stands

pub begins_alike : (slots numbers : List ℕ) (all : List Tenant) (s : Shared) (t : Tenant)
    → SharesFront slots numbers all s → slice_get all s.place ≡ Some t
    → BeginAlike t.table.entries slots numbers s.count
begins_alike slots numbers all s t shares at =
    let same : shares.tenant ≡ t = ap (λ (o : Option Tenant). unwrap_or o t) (sym shares.there ∙ at) in
    subst (λ (x : Tenant). BeginAlike x.table.entries slots numbers s.count) same shares.alike

pub same_set : {X : Type 0} (xs : List X) (i : ℕ) (x y : X) → slice_get xs i ≡ Some x → y ≡ x → set xs i y ≡ xs
same_set [] i x y at same = cc
same_set (z ∷ zs) zero x y at same = ap (λ (w : _). w ∷ zs) (same ∙ sym (ap (λ (o : Option _). unwrap_or o x) at))
same_set (z ∷ zs) (suc i) x y at same = ap (λ (ws : List _). z ∷ ws) (same_set zs i x y at same)

-- ---- one tenant more

all_push : {A : Type 0} (P : A → Type 0) (xs : List A) (x : A) → AllByRecursion P xs → P x
    → AllByRecursion P (xs ++ x ∷ [])
all_push P [] x all p = (p, tt)
all_push P (y ∷ ys) x all p = (all.0, all_push P ys x all.1 p)

said-push : (pool : Cells) (ts : List Tenant) (t : Tenant)
    → loaded_repositories pool (ts ++ t ∷ []) ≡ loaded_repositories pool ts ++ named_in pool t ∷ []
unfolding loaded_repositories
said-push pool ts t = map-append (named_in pool) ts (t ∷ [])

pub adds_none : (digest : List ℕ → List ℕ) (slots : List ℕ) (p : Cells) (ts : List Tenant)
    → AreUnder digest slots p ts → AddsTenants digest slots p ts [] p ts
adds_none digest slots p ts under =
    record { under = under; objects = refl; says = sym (append-nil (loaded_repositories p ts)) }

module _ (digest : List ℕ → List ℕ) (slots : List ℕ) (p q : Cells) (ts : List Tenant)
    (r : RawTenant) (t : Tenant) (under : AreUnder digest slots p ts)
    (built : Builds digest (objects_at p slots) r p q t) where
  grows : (s : ℕ) → holds q s ≡ holds p s + held t.table.entries s
  grows s = let a = built.others.rest s in let b = held-nil s in omega arith

  kept_at : (s : ℕ) → 0 < holds p s → content q s ≡ content p s
  kept_at s some = built.others.kept s (let b = held-nil s in omega arith)

  tenants_kept : KeepsAll p q ts
  tenants_kept s some = kept_at s (let a = under.counts s in omega arith)

  says_one : loaded_repositories q (ts ++ t ∷ [])
      ≡ loaded_repositories p ts ++ map (named_at digest (objects_at p slots)) (r ∷ [])
  says_one =
      said-push q ts t
      ∙ (λ i. said-kept p q ts tenants_kept i ++ (built.says i) ∷ [])

  pub adds_one : AddsTenants digest slots p ts (r ∷ []) q (ts ++ t ∷ [])
  adds_one = record {
    under = record {
      once = under.once;
      counts = λ s. let a = under.counts s in let b = grows s in
          let c = all_held-push ts t s in omega arith;
      each = all_push (IsBuilt digest q) ts t
          (each-kept p q digest ts tenants_kept
          (λ s. let a = under.counts s in let b = grows s in omega arith) under.each)
          built.built;
    };
    objects = objects_at-kept p q slots
        (λ s some. kept_at s (let a = under.counts s in omega arith));
    says = says_one;
  }

-- ---- one after another

pub adds_on : (digest : List ℕ → List ℕ) (slots : List ℕ) (p q z : Cells) (old mid new : List Tenant)
    (rs : List RawTenant) (r : RawTenant) → AddsTenants digest slots p old rs q mid
    → AddsTenants digest slots q mid (r ∷ []) z new → AddsTenants digest slots p old (rs ++ r ∷ []) z new
adds_on digest slots p q z old mid new rs r before one = record {
  under = one.under;
  objects = one.objects ∙ before.objects;
  says =
      one.says
      ∙ (λ i. before.says i ++ map (named_at digest (before.objects i)) (r ∷ []))
      ∙ append_assoc (loaded_repositories p old) (map (named_at digest (objects_at p slots)) rs) (map (named_at digest (objects_at p slots)) (r ∷ []))
      ∙ ap (λ (l : List Named). loaded_repositories p old ++ l) (sym (map-append (named_at digest (objects_at p slots)) rs (r ∷ [])));
}

-- ---- a table of a tenant's numbers

pub counted_by : (digest : List ℕ → List ℕ) (os : List RawObject) (numbers own : List ℕ) (pool : Cells)
    (entries : Entries) → objects pool entries ≡ own_objects digest os numbers → numbers ≡ own
    → length entries ≡ length own
counted_by digest os numbers own pool entries are same =
    sym (length-objects pool entries) ∙ ap (λ (l : List Object). length l) are
    ∙ own_length digest os numbers ∙ ap (λ (l : List ℕ). length l) same

-- ---- tenants of a file that passed

pub each_checked : (digest : List ℕ → List ℕ) (version : ℕ) (os : List RawObject)
    (last : Option (List ℕ)) (ts : List RawTenant) → Passes (object_checks None os)
    → Passes (tenant_checks digest version os last ts) → All (IsChecked digest os) ts
each_checked digest version os last [] good p = All-nil (IsChecked digest os)
each_checked digest version os last (t ∷ ts) good p =
    let one = one_tenant_checks digest version os last t in
    let rest = tenant_checks digest version os (Some t.name) ts in
    All-cons (IsChecked digest os) t ts
    (record { objects = good; version = version; last = last; passes = passes_front one rest p })
    (each_checked digest version os (Some t.name) ts good (passes_rest one rest p))

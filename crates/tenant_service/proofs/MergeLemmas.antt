-- The tenants of another service, which come one after the other, and are taken out again if one of
-- them cannot come.
use Rattle.std.proofs.Common.{◌≡◌, ℕ, zero, suc, ◌+◌, ◌<◌, ◌≤◌, ◌||◌, Bool, true, false, cond, List, [], ◌∷◌, ◌++◌, map, length, take, filter, get_or, Option, None, Some, is_some, refl, sym, ap, ◌∙◌, inl, inr, arith, true≢false}
use Rattle.std.specs.Prelude.{◌⊎◌, min, not}
use Rattle.std.specs.List.{AllByRecursion, IsDistinct}
use Rattle.std.specs.Map.{keys_of, lookup}
use Rattle.std.specs.Option.{option_map_or, option_or, unwrap_or}
use Rattle.std.specs.Set.{is_member}
use Rattle.std.specs.Str.{bytes_eq}
use Rattle.std.proofs.lemmas.Bool.{cases_Bool}
use Rattle.std.proofs.Math.Nat.{min-le_right}
use Rattle.std.proofs.lemmas.List.{length-take, map-append, map_more, take_min}
use Rattle.std.proofs.lemmas.Slice.Eq.{bytes_eq-Decides}
use Rattle.indexmap.specs.IndexMap.{insert_entry}
use Rattle.git_model.specs.RefStore.{RefStore, first_head}
use Rattle.git_model.specs.Repository.{Object, Repository}
use Rattle.content_pool.specs.Pool.{Cells}
use Rattle.tenant_refs.specs.TenantName.{is_tenant_name}
use Rattle.tenant_tables.specs.Objects.{objects}
use Rattle.tenant_tables.specs.View.{View}
use Rattle.tenant_tables.proofs.TableLemmas.{length-objects}
use Rattle.pool_file_checks.specs.Repositories.{Named}
use Rattle.pool_file_checks.proofs.Members.{Has}
use Rattle.pool_file.specs.declared.tenant_view.TenantView.{TenantView}
use Rattle.pool_file.specs.Worth.{is_worth_saving, named_in, to_save}
use Rattle.service_steps.specs.declared.answer.Answer.{Answer}
use Rattle.service_steps.specs.declared.answer.Answer.TheVariants as answer
use Rattle.service_steps.specs.declared.fault.ServiceFault.{ServiceFault}
use Rattle.service_steps.specs.Faults.{code_of}
use Rattle.tenant_service.specs.declared.tenant.OpenStream.TheVariants as phase
use Rattle.tenant_service.specs.declared.tenant.Tenant.{Tenant}
use Rattle.tenant_service.specs.Across.{IsAcross}
use Rattle.tenant_service.specs.Alone.{Closed}
use Rattle.tenant_service.specs.ComingIn.{HasCome, IsReceived, held_with, held_without, names_lent}
use Rattle.tenant_service.specs.Copying.{has_nothing, held_refusal}
use Rattle.tenant_service.specs.Entries.{parts_lent, parts_of}
use Rattle.tenant_service.specs.HeldObjects.{last_held}
use Rattle.tenant_service.specs.Merging.{Merges, first_refused, merged}
use Rattle.tenant_service.specs.OneStep.{store}
use Rattle.tenant_service.specs.Removing.{all_but}
use Rattle.tenant_service.specs.Saved.{last_named, repository_of, saved_of}
use Rattle.tenant_service.specs.TenantState.{TenantStates, Idle, empty_repository, held_of}
use Rattle.tenant_service.specs.Tenants.{Accounts, AreLed, AreSound, Stands, Tenants, holding_in, holdings}
use Rattle.tenant_service.proofs.AccountLemmas.{held-found, held-missing, put}
use Rattle.tenant_service.proofs.BackLemmas.{loses-nothing}
use Rattle.tenant_service.proofs.CopyLemmas.{empty-has_nothing}
use Rattle.tenant_service.proofs.ExportRunLemmas.{not-refused, nothing-held}
use Rattle.tenant_service.proofs.ExtractLemmas.{take-over}
use Rattle.tenant_service.proofs.LentLemmas.{saved-lent}
use Rattle.tenant_service.proofs.LoadedLemmas.{distinct-rising}
use Rattle.tenant_service.proofs.RemovalLemmas.{held-beside, held-gone}
use Rattle.tenant_service.proofs.SavableLemmas.{filter-has}
use Rattle.tenant_service.proofs.SavedLemmas.{listed_has, listed_rises, saved-repository}
use Rattle.tenant_service.proofs.SoundLemmas.{last-sound}
use Rattle.tenant_service.proofs.StoredLemmas.{keys-holdings}

-- ---- which tenant is refused

pub refused-found : (p : Cells) (name : List ℕ) (es : Tenants) (t : Tenant) (o : Option ServiceFault)
    → lookup (bytes_eq name) es ≡ Some t → o ≡ held_refusal (holding_in p t)
    → o ≡ held_refusal (held_of name (holdings p es))
refused-found p name es t o got is = is ∙ ap held_refusal (sym (held-found p name es t got))

pub refused-missing : (p : Cells) (name : List ℕ) (es : Tenants) → lookup (bytes_eq name) es ≡ None
    → None ≡ held_refusal (held_of name (holdings p es))
refused-missing p name es none =
    sym (ap held_refusal (held-missing p name es none)
    ∙ rw empty-has_nothing refl)

or-none : {X : Type 0} (a b : Option X) → option_or a b ≡ None → (a ≡ None) × (b ≡ None)
or-none None b h = (refl, h)
or-none (Some x) b h = cc h

module _ (all : TenantStates) where
  abbrev refusal : TenantView → Option ServiceFault
  refusal v = held_refusal (held_of v.name.now all)

  abbrev first : List TenantView → Option ServiceFault
  first xs = first_refused (names_lent xs) all

  none-last : (ks : List (List ℕ)) (k : List ℕ) → first_refused ks all ≡ None
      → held_refusal (held_of k all) ≡ None → first_refused (ks ++ k ∷ []) all ≡ None
  none-last [] k before none = ap (λ (o : Option ServiceFault). option_or o None) none
  none-last (x ∷ ks) k before none =
      let b = or-none (held_refusal (held_of x all)) (first_refused ks all) before in
      ap (λ (o : Option ServiceFault). option_or o (first_refused (ks ++ k ∷ []) all)) b.0
      ∙ none-last ks k b.1 none

  pub none-more : (xs : List TenantView) (i : ℕ) (v : TenantView) → i < length xs
      → v ≡ get_or xs i v → first (take i xs) ≡ None → refusal v ≡ None
      → first (take (i + 1) xs) ≡ None
  none-more xs i v lt is before none =
      ap (λ (ks : List (List ℕ)). first_refused ks all)
      (map_more (λ (y : TenantView). y.name.now) xs i v lt
      ∙ ap (λ (y : TenantView). names_lent (take i xs) ++ y.name.now ∷ []) (sym is))
      ∙ none-last (names_lent (take i xs)) v.name.now before none

  pub refused-there : (xs : List TenantView) (i : ℕ) (v : TenantView) (o : Option ServiceFault)
      → i < length xs → v ≡ get_or xs i v → first (take i xs) ≡ None → o ≡ refusal v
      → is_some o ≡ true → o ≡ first xs
  refused-there [] i v o lt is before same some = absurd (omega arith)
  refused-there (x ∷ xs) zero v o lt is before same some =
      by o (same ∙ ap refusal is) some
    where
      by : (o : Option ServiceFault) → o ≡ refusal x → is_some o ≡ true
          → o ≡ option_or (refusal x) (first xs)
      by None e h = cc h
      by (Some r) e h = ap (λ (a : Option ServiceFault). option_or a (first xs)) e
  refused-there (x ∷ xs) (suc i) v o lt is before same some =
      let b = or-none (refusal x) (first (take i xs)) before in
      refused-there xs i v o (omega arith) is b.1 same some
      ∙ ap (λ (a : Option ServiceFault). option_or a (first xs)) (sym b.0)

  free-at : (xs : List TenantView) (i : ℕ) (v : TenantView) → i < length xs → v ≡ get_or xs i v
      → first xs ≡ None → refusal v ≡ None
  free-at [] i v lt is free = absurd (omega arith)
  free-at (x ∷ xs) zero v lt is free = ap refusal is ∙ (or-none (refusal x) (first xs) free).0
  free-at (x ∷ xs) (suc i) v lt is free =
      free-at xs i v (omega arith) is (or-none (refusal x) (first xs) free).1

  -- one of those that come has nothing here
  pub nothing-here : (xs : List TenantView) (i : ℕ) (v : TenantView) → i < length xs
      → v ≡ get_or xs i v → first xs ≡ None → held_of v.name.now all ≡ Idle empty_repository
  nothing-here xs i v lt is free = not-refused (held_of v.name.now all) (free-at xs i v lt is free)

  free-member : (xs : List TenantView) (i : ℕ) (t : List ℕ) → first xs ≡ None
      → is_member bytes_eq (names_lent (take i xs)) t ≡ true → held_of t all ≡ Idle empty_repository
  free-member [] zero t free there = cc there
  free-member [] (suc i) t free there = cc there
  free-member (x ∷ xs) zero t free there = cc there
  free-member (x ∷ xs) (suc i) t free there =
      by (bytes_eq t x.name.now) refl there (free-member xs i t f.1)
    where
      f : (refusal x ≡ None) × (first xs ≡ None)
      f = or-none (refusal x) (first xs) free

      by : (b : Bool) → bytes_eq t x.name.now ≡ b
          → (b || is_member bytes_eq (names_lent (take i xs)) t) ≡ true
          → (is_member bytes_eq (names_lent (take i xs)) t ≡ true → held_of t all ≡ Idle empty_repository)
          → held_of t all ≡ Idle empty_repository
      by true here there later =
          ap (λ (n : List ℕ). held_of n all) ((bytes_eq-Decides t x.name.now).0 here)
          ∙ not-refused (held_of x.name.now all) f.0
      by false apart there later = later there

pub none-first : (all : TenantStates) (xs : List TenantView) (i : ℕ) → length xs ≤ i
    → first_refused (names_lent (take i xs)) all ≡ None → None ≡ first_refused (names_lent xs) all
none-first all xs i past none =
    sym (sym (ap (λ (ys : List TenantView). first_refused (names_lent ys) all) (take-over xs i past)) ∙ none)

-- ---- what of another service a tenant has

pub is-received : (digest : List ℕ → List ℕ) (from p q : Cells) (v : TenantView) (count : ℕ)
    (table : View) (refs : RefStore) (chain : List (List ℕ))
    → count ≡ length (named_in from v).repository.objects
    → IsAcross digest from v.table.now.entries count p q table → refs ≡ v.refs.now
    → chain ≡ []
    → IsReceived digest p (named_in from v).repository q
    (record { table = table; refs = refs; phase = phase.Closed; chain = chain })
is-received digest from p q v count table refs chain counted across same none = record {
  stands = record {
    entries = across.stands;
    settled = across.committed;
    opened = tt;
    files = tt;
    chain = rw none tt;
  };
  others = across.others;
  held = let os = across.objects ∙ cut in λ i. Idle (record { objects = os i; refs = same i });
}
  where
    there : List Object
    there = objects from v.table.now.entries

    cut : take count there ≡ take v.objects there
    cut =
        ap (λ (n : ℕ). take n there) (counted ∙ length-take v.objects there)
        ∙ take_min v.objects there

-- no more objects are lent than there are
pub few-lent : (from : Cells) (v : TenantView) (count : ℕ)
    → count ≡ length (named_in from v).repository.objects → count ≤ length v.table.now.entries
few-lent from v count counted =
    let there = objects from v.table.now.entries in
    let many = length-objects from v.table.now.entries in
    rw (counted ∙ length-take v.objects there ∙ ap (min v.objects) many)
    (min-le_right v.objects (length v.table.now.entries))

pub has-come : (digest : List ℕ → List ℕ) (from p q : Cells) (es between new : Tenants) (v : TenantView)
    (name : List ℕ) (t : Tenant) → Accounts digest p es → is_tenant_name v.name.now ≡ true
    → held_of v.name.now (holdings p es) ≡ Idle empty_repository
    → IsReceived digest p (named_in from v).repository q t → between ≡ es → name ≡ v.name.now
    → new ≡ insert_entry bytes_eq between name t
    → HasCome digest (named_in from v) (store p es) (store q new)
has-come digest from p q es between new v name t h named nothing r same called is =
    let x = put digest v.name.now p q es t h named nothing r.stands r.others in
    let put-in : new ≡ insert_entry bytes_eq es v.name.now t =
    is ∙ (λ i. insert_entry bytes_eq (same i) (called i) t) in
    rw put-in
    (record { accounts = x.accounts; here = x.here ∙ r.held; others = x.others })

-- ---- one tenant after the other comes

abbrev pairs : List Named → List (List ℕ × Repository)
pairs ns = map (λ n. (n.tenant, n.repository)) ns

last-found : {X : Type 0} (k : List ℕ) (ps : List (List ℕ × X)) (x : X) → lookup (bytes_eq k) ps ≡ None
    → lookup (bytes_eq k) (ps ++ (k, x) ∷ []) ≡ Some x
last-found k [] x none = ap (λ (b : Bool). cond b (Some x) None) ((bytes_eq-Decides k k).1 refl)
last-found k (e ∷ ps) x none = by (bytes_eq k e.0) none (last-found k ps x)
  where
    by : (b : Bool) → cond b (Some e.1) (lookup (bytes_eq k) ps) ≡ None
        → (lookup (bytes_eq k) ps ≡ None → lookup (bytes_eq k) (ps ++ (k, x) ∷ []) ≡ Some x)
        → cond b (Some e.1) (lookup (bytes_eq k) (ps ++ (k, x) ∷ [])) ≡ Some x
    by true h later = cc h
    by false h later = later h

last-past : {X : Type 0} (t k : List ℕ) (ps : List (List ℕ × X)) (x : X) → bytes_eq t k ≡ false
    → lookup (bytes_eq t) (ps ++ (k, x) ∷ []) ≡ lookup (bytes_eq t) ps
last-past t k [] x apart = ap (λ (b : Bool). cond b (Some x) None) apart
last-past t k (e ∷ ps) x apart =
    ap (λ (o : Option _). cond (bytes_eq t e.0) (Some e.1) o) (last-past t k ps x apart)

name-at : (P : List ℕ → Type 0) (xs : List TenantView) (i : ℕ) (v : TenantView)
    → AllByRecursion P (names_lent xs) → i < length xs → v ≡ get_or xs i v → P v.name.now
name-at P [] i v all lt is = absurd (omega arith)
name-at P (x ∷ xs) zero v all lt is = rw is all.0
name-at P (x ∷ xs) (suc i) v all lt is = name-at P xs i v all.1 (omega arith) is

module _ (from : Cells) where
  -- a tenant is not among those before it
  absent-before : (xs : List TenantView) (i : ℕ) (v : TenantView)
      → IsDistinct bytes_eq (names_lent xs) → i < length xs → v ≡ get_or xs i v
      → lookup (bytes_eq v.name.now) (pairs (map (named_in from) (take i xs))) ≡ None
  unfolding IsDistinct
  absent-before xs zero v distinct lt is = refl
  absent-before [] (suc i) v distinct lt is = refl
  absent-before (x ∷ xs) (suc i) v distinct lt is =
      by (bytes_eq v.name.now x.name.now) refl (absent-before xs i v distinct.1 (omega arith) is)
    where
      rest : Option Repository
      rest = lookup (bytes_eq v.name.now) (pairs (map (named_in from) (take i xs)))

      by : (b : Bool) → bytes_eq v.name.now x.name.now ≡ b → rest ≡ None
          → cond b (Some (named_in from x).repository) rest ≡ None
      by true here none =
          let apart = name-at (λ y. bytes_eq x.name.now y ≡ false) xs i v distinct.0 (omega arith) is in
          absurd (true≢false (sym ((bytes_eq-Decides x.name.now v.name.now).1
          (sym ((bytes_eq-Decides v.name.now x.name.now).0 here))) ∙ apart))
      by false past none = none

  pub held-before : (xs : List TenantView) (i : ℕ) (v : TenantView) (before : TenantStates)
      → IsDistinct bytes_eq (names_lent xs) → i < length xs → v ≡ get_or xs i v
      → held_with v.name.now (map (named_in from) (take i xs)) before ≡ held_of v.name.now before
  held-before xs i v before distinct lt is =
      ap (λ (o : Option Repository). option_map_or Idle o (held_of v.name.now before))
      (absent-before xs i v distinct lt is)

  pub come-more : (xs : List TenantView) (i : ℕ) (v : TenantView) (before mid after : TenantStates)
      → IsDistinct bytes_eq (names_lent xs) → i < length xs → v ≡ get_or xs i v
      → ((t : List ℕ) → held_of t mid ≡ held_with t (map (named_in from) (take i xs)) before)
      → held_of v.name.now after ≡ Idle (named_in from v).repository
      → ((t : List ℕ) → bytes_eq t v.name.now ≡ false → held_of t after ≡ held_of t mid)
      → (t : List ℕ) → held_of t after ≡ held_with t (map (named_in from) (take (i + 1) xs)) before
  come-more xs i v before mid after distinct lt is held here others t = by (bytes_eq t v.name.now) refl
    where
      ps : List (List ℕ × Repository)
      ps = pairs (map (named_in from) (take i xs))

      more : pairs (map (named_in from) (take (i + 1) xs))
          ≡ ps ++ (v.name.now, (named_in from v).repository) ∷ []
      more =
          ap pairs (map_more (named_in from) xs i v lt)
          ∙ map-append (λ (n : Named). (n.tenant, n.repository)) (map (named_in from) (take i xs))
          (named_in from (get_or xs i v) ∷ [])
          ∙ ap (λ (y : TenantView). ps ++ (y.name.now, (named_in from y).repository) ∷ []) (sym is)

      by : (b : Bool) → bytes_eq t v.name.now ≡ b
          → held_of t after ≡ held_with t (map (named_in from) (take (i + 1) xs)) before
      by true same =
          let named : t ≡ v.name.now = (bytes_eq-Decides t v.name.now).0 same in
          ap (λ (n : List ℕ). held_of n after) named ∙ here
          ∙ ap (λ (o : Option Repository). option_map_or Idle o (held_of t before))
          (sym (ap (λ (n : List ℕ). lookup (bytes_eq n) (pairs (map (named_in from) (take (i + 1) xs)))) named
          ∙ ap (lookup (bytes_eq v.name.now)) more
          ∙ last-found v.name.now ps (named_in from v).repository (absent-before xs i v distinct lt is)))
      by false apart =
          others t apart ∙ held t
          ∙ ap (λ (o : Option Repository). option_map_or Idle o (held_of t before))
          (sym (ap (lookup (bytes_eq t)) more
          ∙ last-past t v.name.now ps (named_in from v).repository apart))

  pub all-come : (xs : List TenantView) (i : ℕ) (before after : TenantStates) → length xs ≤ i
      → ((t : List ℕ) → held_of t after ≡ held_with t (map (named_in from) (take i xs)) before)
      → (t : List ℕ) → held_of t after ≡ held_with t (map (named_in from) xs) before
  all-come xs i before after past held t =
      held t
      ∙ ap (λ (ys : List TenantView). held_with t (map (named_in from) ys) before)
      (take-over xs i past)

  -- ---- those that came are taken out again

  absent-pairs : (xs : List TenantView) (t : List ℕ) → is_member bytes_eq (names_lent xs) t ≡ false
      → lookup (bytes_eq t) (pairs (map (named_in from) xs)) ≡ None
  absent-pairs [] t none = refl
  absent-pairs (x ∷ xs) t none = by (bytes_eq t x.name.now) none (absent-pairs xs t)
    where
      rest : Option Repository
      rest = lookup (bytes_eq t) (pairs (map (named_in from) xs))

      by : (b : Bool) → (b || is_member bytes_eq (names_lent xs) t) ≡ false
          → (is_member bytes_eq (names_lent xs) t ≡ false → rest ≡ None)
          → cond b (Some (named_in from x).repository) rest ≡ None
      by true h later = cc h
      by false h later = later h

  pub none-come : (xs : List TenantView) (i : ℕ) (before mid after : TenantStates)
      → first_refused (names_lent xs) before ≡ None
      → ((t : List ℕ) → held_of t mid ≡ held_with t (map (named_in from) (take i xs)) before)
      → ((t : List ℕ) → held_of t after ≡ held_without t (names_lent (take i xs)) mid)
      → (t : List ℕ) → held_of t after ≡ held_of t before
  none-come xs i before mid after free held without t =
      without t ∙ by (is_member bytes_eq (names_lent (take i xs)) t) refl
    where
      by : (b : Bool) → is_member bytes_eq (names_lent (take i xs)) t ≡ b
          → cond b (Idle empty_repository) (held_of t mid) ≡ held_of t before
      by true there = sym (free-member before xs i t free there)
      by false none =
          held t
          ∙ ap (λ (o : Option Repository). option_map_or Idle o (held_of t before))
          (absent-pairs (take i xs) t none)

member-last : (ns : List (List ℕ)) (n t : List ℕ) → is_member bytes_eq (ns ++ n ∷ []) t
    ≡ (is_member bytes_eq ns t || bytes_eq t n)
member-last [] n t = by (bytes_eq t n)
  where
    by : (b : Bool) → (b || false) ≡ b
    by true = refl
    by false = refl
member-last (k ∷ ns) n t = by (bytes_eq t k) (member-last ns n t)
  where
    by : (b : Bool) → is_member bytes_eq (ns ++ n ∷ []) t ≡ (is_member bytes_eq ns t || bytes_eq t n)
        → (b || is_member bytes_eq (ns ++ n ∷ []) t) ≡ ((b || is_member bytes_eq ns t) || bytes_eq t n)
    by true h = refl
    by false h = h

pub without-more : (xs : List TenantView) (i : ℕ) (v : TenantView) (before mid after : TenantStates)
    → i < length xs → v ≡ get_or xs i v
    → ((t : List ℕ) → held_of t mid ≡ held_without t (names_lent (take i xs)) before)
    → after ≡ all_but v.name.now mid
    → (t : List ℕ) → held_of t after ≡ held_without t (names_lent (take (i + 1) xs)) before
without-more xs i v before mid after lt is held left t = by (bytes_eq t v.name.now) refl
  where
    ns : List (List ℕ)
    ns = names_lent (take i xs)

    more : is_member bytes_eq (names_lent (take (i + 1) xs)) t
        ≡ (is_member bytes_eq ns t || bytes_eq t v.name.now)
    more =
        ap (λ (ks : List (List ℕ)). is_member bytes_eq ks t)
        (map_more (λ (y : TenantView). y.name.now) xs i v lt
        ∙ ap (λ (y : TenantView). ns ++ y.name.now ∷ []) (sym is))
        ∙ member-last ns v.name.now t

    or-true : (a b : Bool) → b ≡ true → (a || b) ≡ true
    or-true true b h = refl
    or-true false b h = h

    or-false : (a b : Bool) → b ≡ false → (a || b) ≡ a
    or-false true b h = refl
    or-false false b h = h

    by : (b : Bool) → bytes_eq t v.name.now ≡ b
        → held_of t after ≡ held_without t (names_lent (take (i + 1) xs)) before
    by true here =
        ap (held_of t) left
        ∙ ap (λ (n : List ℕ). held_of n (all_but v.name.now mid)) ((bytes_eq-Decides t v.name.now).0 here)
        ∙ held-gone v.name.now mid
        ∙ ap (λ (c : Bool). cond c (Idle empty_repository) (held_of t before))
        (sym (more ∙ or-true (is_member bytes_eq ns t) (bytes_eq t v.name.now) here))
    by false apart =
        ap (held_of t) left ∙ held-beside v.name.now t mid apart ∙ held t
        ∙ ap (λ (c : Bool). cond c (Idle empty_repository) (held_of t before))
        (sym (more ∙ or-false (is_member bytes_eq ns t) (bytes_eq t v.name.now) apart))

pub all-without : (xs : List TenantView) (i : ℕ) (before after : TenantStates) → length xs ≤ i
    → ((t : List ℕ) → held_of t after ≡ held_without t (names_lent (take i xs)) before)
    → (t : List ℕ) → held_of t after ≡ held_without t (names_lent xs) before
all-without xs i before after past held t =
    held t
    ∙ ap (λ (ys : List TenantView). held_without t (names_lent ys) before) (take-over xs i past)

-- ---- those that come are those that have something

lookup-has : (t : List ℕ) (ns : List Named) (r : Repository) → lookup (bytes_eq t) (pairs ns) ≡ Some r
    → (n : Named) × Has ns n × (n.repository ≡ r)
lookup-has t [] r got = cc got
lookup-has t (n ∷ ns) r got = by (bytes_eq t n.tenant) got (lookup-has t ns r)
  where
    by : (b : Bool) → cond b (Some n.repository) (lookup (bytes_eq t) (pairs ns)) ≡ Some r
        → (lookup (bytes_eq t) (pairs ns) ≡ Some r → (m : Named) × Has ns m × (m.repository ≡ r))
        → (m : Named) × Has (n ∷ ns) m × (m.repository ≡ r)
    by true h later = let same : n.repository ≡ r = cc h in (n, inl refl, same)
    by false h later = let l = later h in (l.0, inr l.1, l.2)

empty-unworthy : (name : List ℕ)
    → is_worth_saving (record { tenant = name; repository = empty_repository }) ≡ false
empty-unworthy name =
    ap not ((bytes_eq-Decides first_head first_head).1 refl)

has-something : (n : Named) → is_worth_saving n ≡ true → has_nothing n.repository ≡ false
has-something n worth = elim (cases_Bool (has_nothing n.repository)) [
  | inl nothing ↦
      let none = nothing-held n.repository nothing in
      let bad : true ≡ false =
      sym worth
      ∙ ap (λ (r : Repository). is_worth_saving (record { tenant = n.tenant; repository = r })) none
      ∙ empty-unworthy n.tenant in
      absurd (true≢false bad)
  | inr something ↦ something
]

module _ (digest : List ℕ → List ℕ) (there : TenantStates)
    (names : AllByRecursion (λ name. is_tenant_name name ≡ true) (keys_of there))
    (distinct : IsDistinct bytes_eq (keys_of there)) (sound : AreSound digest there) where
  pub with-merged : (t : List ℕ) (all : TenantStates) → held_with t (saved_of there) all ≡ merged t there all
  with-merged t all = by (lookup (bytes_eq t) (pairs (saved_of there))) refl
    where
      here : repository_of t (saved_of there) ≡ last_held (held_of t there)
      here = saved-repository t there distinct (loses-nothing digest there names distinct sound)

      by : (o : Option Repository) → lookup (bytes_eq t) (pairs (saved_of there)) ≡ o
          → option_map_or Idle o (held_of t all) ≡ merged t there all
      by None none =
          let empty : empty_repository ≡ last_held (held_of t there) =
          ap (λ (o : Option Repository). unwrap_or o empty_repository) (sym none) ∙ here in
          ap (λ (b : Bool). cond b (held_of t all) (Idle empty_repository)) (sym empty-has_nothing)
          ∙ ap (λ (r : Repository). cond (has_nothing r) (held_of t all) (Idle r)) empty
      by (Some r) got =
          let found : r ≡ last_held (held_of t there) =
          ap (λ (o : Option Repository). unwrap_or o empty_repository) (sym got) ∙ here in
          let has = lookup-has t (saved_of there) r got in
          let worth = (filter-has is_worth_saving (last_named there) has.0
          (listed_has (λ n. n.tenant) (filter is_worth_saving (last_named there)) has.0 has.1)).1 in
          let some : has_nothing r ≡ false =
          ap has_nothing (sym has.2) ∙ has-something has.0 worth in
          ap (λ (b : Bool). cond b (held_of t all) (Idle r)) (sym some)
          ∙ ap (λ (x : Repository). cond (has_nothing x) (held_of t all) (Idle x)) found

pub distinct-saved : (there : TenantStates) → IsDistinct bytes_eq (map (λ n. n.tenant) (saved_of there))
distinct-saved there =
    distinct-rising None (map (λ n. n.tenant) (saved_of there))
    (listed_rises (λ n. n.tenant) (filter is_worth_saving (last_named there)))

pub names-saved : (from : Cells) (xs : List TenantView) (ns : List Named) → map (named_in from) xs ≡ ns
    → names_lent xs ≡ map (λ n. n.tenant) ns
names-saved from xs ns is = names-same xs ∙ ap (map (λ n. n.tenant)) is
  where
    names-same : (ys : List TenantView) → names_lent ys ≡ map (λ n. n.tenant) (map (named_in from) ys)
    names-same [] = refl
    names-same (y ∷ ys) = ap (λ (ks : List (List ℕ)). y.name.now ∷ ks) (names-same ys)

pub are-saved : (digest : List ℕ → List ℕ) (from : Cells) (es : Tenants) (all lent shown : List TenantView)
    → AllByRecursion (λ e. Stands digest from e.1) es → map parts_lent all ≡ map parts_of es
    → shown ≡ all → map (named_in from) lent ≡ to_save from shown
    → map (named_in from) lent ≡ saved_of (holdings from es)
are-saved digest from es all lent shown stands is same saved =
    saved ∙ ap (to_save from) same ∙ saved-lent digest from es all stands is

pub distinct-holdings : (p : Cells) (es : Tenants) → IsDistinct bytes_eq (keys_of es)
    → IsDistinct bytes_eq (keys_of (holdings p es))
distinct-holdings p es distinct =
    rw (keys-holdings p es) distinct

-- ---- what a merge answers

pub merge-refused : (o : Option ServiceFault) (refusal : ServiceFault) (others before : TenantStates)
    (told : Answer) → o ≡ Some refusal → told ≡ answer.Fault (code_of refusal)
    → Merges o others before told before
merge-refused o refusal others before told is says =
    rw is
    (rw says (refl, refl))

pub merge-made : (o : Option ServiceFault) (others before after : TenantStates) → o ≡ None
    → ((t : List ℕ) → held_of t after ≡ merged t others before) → Merges o others before answer.Ok after
merge-made o others before after is held =
    rw is held

pub merge-stopped : (o : Option ServiceFault) (others before after : TenantStates)
    → ((t : List ℕ) → held_of t after ≡ held_of t before) → Merges o others before (answer.Memory 0) after
merge-stopped None others before after held = (refl, held)
merge-stopped (Some refusal) others before after held = (refl, held)

module _ (others before : TenantStates) where
  -- a tenant has what it had, or what came
  came : (o : Option ServiceFault) (told : Answer) (after : TenantStates)
      → Merges o others before told after → (t : List ℕ)
      → (held_of t after ≡ held_of t before) ⊎ (held_of t after ≡ Idle (last_held (held_of t others)))
  came None answer.Ok after h t = by (has_nothing (last_held (held_of t others))) (h t)
    where
      by : (b : Bool) → held_of t after ≡ cond b (held_of t before) (Idle (last_held (held_of t others)))
          → (held_of t after ≡ held_of t before) ⊎ (held_of t after ≡ Idle (last_held (held_of t others)))
      by true e = inl e
      by false e = inr e
  came (Some refusal) answer.Ok after h t = absurd h
  came None (answer.Fault code) after h t = absurd h
  came (Some refusal) (answer.Fault code) after h t = inl (ap (held_of t) h.1)
  came None (answer.Memory items) after h t = inl (h.1 t)
  came (Some refusal) (answer.Memory items) after h t = inl (h.1 t)

  pub merge-led : (digest : List ℕ → List ℕ) (o : Option ServiceFault) (told : Answer)
      (after : TenantStates) → Merges o others before told after → AreLed digest before
      → AreLed digest after
  merge-led digest o told after h led t = elim (came o told after h t) [
    | inl same ↦
        rw same (led t)
    | inr own ↦ (
      Closed (last_held (held_of t others)),
      rw own refl,
    )
  ]

  pub merge-sound : (digest : List ℕ → List ℕ) (o : Option ServiceFault) (told : Answer)
      (after : TenantStates) → Merges o others before told after → AreSound digest others
      → AreSound digest before → AreSound digest after
  merge-sound digest o told after h there sound t = elim (came o told after h t) [
    | inl same ↦ rw same (sound t)
    | inr own ↦
        rw own
        (last-sound digest (held_of t others) (there t))
  ]

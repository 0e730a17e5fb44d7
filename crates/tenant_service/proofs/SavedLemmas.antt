-- What of a service comes back from a pool file.
use Rattle.std.proofs.Common.{◌≡◌, ℕ, Bool, true, false, cond, List, [], ◌∷◌, map, length, filter, Option, None, Some, refl, sym, ap, subst, ◌∙◌, inl, inr, arith, true≢false}
use Rattle.std.specs.Prelude.{◌||◌, not, nat_lt}
use Rattle.std.specs.List.{AllByRecursion, IsDistinct}
use Rattle.std.specs.Map.{keys_of, lookup}
use Rattle.std.specs.Option.{option_map, unwrap_or}
use Rattle.std.specs.Ordering.{eq_by_cmp}
use Rattle.std.specs.Str.{bytes_eq}
use Rattle.std.specs.FinMap.{FinMap, find, entries, entries_sorted, from_entries, get, get-entries, get-from_entries, get-empty, empty, same_map}
use Rattle.std.proofs.lemmas.Bool.Decides.{nat_tests}
use Rattle.std.proofs.lemmas.Cmp.{nat_list_cmp_total}
use Rattle.std.proofs.lemmas.Slice.Eq.{bytes_eq-Decides}
use Rattle.git_model.specs.Repository.{Repository, Object, object_named}
use Rattle.git_model.specs.RefStore.{RefMap, RefStore, first_head, no_refs}
use Rattle.git_model.specs.GoodRepository.{AreRefs, MayHold}
use Rattle.pool_file_checks.specs.FileRefs.{AreRising}
use Rattle.pool_file_checks.specs.Repositories.{Named}
use Rattle.pool_file_checks.proofs.Members.{Has, from_map}
use Rattle.pool_file_checks.proofs.Keys.{key_cmp, key_exact, tied, ties}
use Rattle.pool_file_checks.proofs.Rising.{rising_sorted}
use Rattle.pool_file_checks.proofs.Found.{find_has}
use Rattle.pool_file.specs.Listing.{listed_by}
use Rattle.pool_file.specs.Worth.{is_worth_saving}
use Rattle.tenant_service.specs.TenantState.{TenantState, TenantStates, Idle, empty_repository, held_of}
use Rattle.tenant_service.specs.HeldObjects.{last_held}
use Rattle.tenant_service.specs.Saved.{last_named, saved_of, repository_of}

-- ---- a list by its keys has what is found first

module _ {X : Type 0} (key : X → List ℕ) where
  abbrev keyed : List X → List (List ℕ × X)
  keyed xs = map (λ x. (key x, x)) xs

  found_has : (q : List ℕ) (xs : List X) (x : X) → find key_cmp q (keyed xs) ≡ Some x
      → Has xs x × (key x ≡ q)
  found_has q [] x e = cc
  found_has q (y ∷ ys) x e = by (eq_by_cmp key_cmp q (key y)) refl e (found_has q ys x)
    where
      by : (b : Bool) → eq_by_cmp key_cmp q (key y) ≡ b
          → cond b (Some y) (find key_cmp q (keyed ys)) ≡ Some x
          → (find key_cmp q (keyed ys) ≡ Some x → Has ys x × (key x ≡ q))
          → Has (y ∷ ys) x × (key x ≡ q)
      by true t f later =
          let same : y ≡ x = cc in (inl same, sym (tied q (key y) t ∙ ap key same))
      by false t f later = let h = later f in (inr h.0, h.1)

  keyed_values : (es : List (List ℕ × X)) → ((e : List ℕ × X) → Has es e → key e.1 ≡ e.0)
      → keyed (map (λ e. e.1) es) ≡ es
  keyed_values [] each = refl
  keyed_values (e ∷ es) each =
      let first = each e (inl refl) in
      let rest = keyed_values es (λ f h. each f (inr h)) in
      λ i. (first i, e.1) ∷ rest i

  keys_keyed : (xs : List X) → map (λ e. e.0) (keyed xs) ≡ map key xs
  keys_keyed [] = refl
  keys_keyed (x ∷ xs) = ap (λ (ks : List (List ℕ)). key x ∷ ks) (keys_keyed xs)

  module _ (xs : List X) where
    abbrev listing : FinMap key_cmp X
    listing = from_entries {R = key_cmp} (keyed xs)

    same_find : (q : List ℕ) → find key_cmp q (entries listing) ≡ find key_cmp q (keyed xs)
    same_find q =
        sym (get-entries listing q) ∙ get-from_entries nat_list_cmp_total (keyed xs) q

    of_entry : (e : List ℕ × X) → Has (entries listing) e → Has xs e.1 × (key e.1 ≡ e.0)
    of_entry e h =
        found_has e.0 xs e.1
        (sym (same_find e.0) ∙ find_has (entries listing) e (entries_sorted listing) h)

    keyed_listed : keyed (listed_by key xs) ≡ entries listing
    unfolding listed_by
    keyed_listed = keyed_values (entries listing) (λ e h. (of_entry e h).1)

    pub find_listed : (q : List ℕ) → find key_cmp q (keyed (listed_by key xs))
        ≡ find key_cmp q (keyed xs)
    find_listed q =
        ap (λ (es : List (List ℕ × X)). find key_cmp q es) keyed_listed ∙ same_find q

    pub listed_has : (x : X) → Has (listed_by key xs) x → Has xs x
    unfolding listed_by
    listed_has x h =
        let f = from_map (λ (e : List ℕ × X). e.1) (entries listing) x h in
        rw (← f.is) (of_entry f.from f.there).0

    pub listed_rises : AreRising None (map key (listed_by key xs))
    listed_rises =
        subst (AreRising None) (keys_keyed (listed_by key xs))
        (rising_sorted (keyed (listed_by key xs))
        (rw keyed_listed
        (entries_sorted listing)))

-- ---- repositories by their tenants' names

abbrev repositories : List Named → List (List ℕ × Repository)
repositories all = map (λ n. (n.tenant, n.repository)) all

same_bool : (a b : Bool) → (a ≡ true → b ≡ true) → (b ≡ true → a ≡ true) → a ≡ b
same_bool true b there back = sym (there refl)
same_bool false true there back = back refl
same_bool false false there back = refl

same_test : (q k : List ℕ) → bytes_eq q k ≡ eq_by_cmp key_cmp q k
same_test q k =
    same_bool (bytes_eq q k) (eq_by_cmp key_cmp q k)
    (λ e. ties q k (sym ((bytes_eq-Decides q k).0 e)))
    (λ e. (bytes_eq-Decides q k).1 (tied q k e))

lookup-find : (q : List ℕ) (ns : List Named) → lookup (bytes_eq q) (repositories ns)
    ≡ option_map (λ n. n.repository) (find key_cmp q (keyed (λ n. n.tenant) ns))
lookup-find q [] = refl
lookup-find q (n ∷ ns) =
    ap (λ (b : Bool). cond b (Some n.repository) (lookup (bytes_eq q) (repositories ns)))
    (same_test q n.tenant)
    ∙ by (eq_by_cmp key_cmp q n.tenant) (lookup-find q ns)
  where
    by : (b : Bool) → lookup (bytes_eq q) (repositories ns)
        ≡ option_map (λ n. n.repository) (find key_cmp q (keyed (λ n. n.tenant) ns))
        → cond b (Some n.repository) (lookup (bytes_eq q) (repositories ns))
        ≡ option_map (λ n. n.repository)
        (cond b (Some n) (find key_cmp q (keyed (λ n. n.tenant) ns)))
    by true rest = refl
    by false rest = rest

-- the order of a list does not matter
listed-repository : (q : List ℕ) (ns : List Named)
    → repository_of q (listed_by (λ n. n.tenant) ns) ≡ repository_of q ns
listed-repository q ns =
    ap (λ (o : Option Repository). unwrap_or o empty_repository)
    (lookup-find q (listed_by (λ n. n.tenant) ns)
    ∙ ap (λ (o : Option Named). option_map (λ n. n.repository) o)
    (find_listed (λ (n : Named). n.tenant) ns q)
    ∙ sym (lookup-find q ns))

absent : (q : List ℕ) (ns : List Named)
    → AllByRecursion (λ y. bytes_eq q y ≡ false) (map (λ n. n.tenant) ns)
    → lookup (bytes_eq q) (repositories ns) ≡ None
absent q [] all = refl
absent q (n ∷ ns) all =
    ap (λ (b : Bool). cond b (Some n.repository) (lookup (bytes_eq q) (repositories ns))) all.0
    ∙ absent q ns all.1

-- what is not worth saving is empty
abbrev pub LosesNothing : List Named → Type 0
LosesNothing ns =
    (n : Named) → Has ns n → is_worth_saving n ≡ false → n.repository ≡ empty_repository

worth-repository : (q : List ℕ) (ns : List Named)
    → IsDistinct bytes_eq (map (λ n. n.tenant) ns) → LosesNothing ns
    → repository_of q (filter is_worth_saving ns) ≡ repository_of q ns
unfolding IsDistinct
worth-repository q [] distinct loses = refl
worth-repository q (n ∷ ns) distinct loses =
    by (is_worth_saving n) refl (bytes_eq q n.tenant) refl
    (worth-repository q ns distinct.1 (λ m h. loses m (inr h)))
  where
    rest : List Named
    rest = filter is_worth_saving ns

    by : (w : Bool) → is_worth_saving n ≡ w → (b : Bool) → bytes_eq q n.tenant ≡ b
        → repository_of q rest ≡ repository_of q ns
        → repository_of q (cond w (n ∷ rest) rest)
        ≡ unwrap_or (cond b (Some n.repository) (lookup (bytes_eq q) (repositories ns)))
        empty_repository
    by true worth b here later =
        ap (λ (c : Bool). unwrap_or (cond c (Some n.repository)
        (lookup (bytes_eq q) (repositories rest))) empty_repository) here
        ∙ among b later
      where
        among : (b : Bool) → repository_of q rest ≡ repository_of q ns
            → unwrap_or (cond b (Some n.repository)
            (lookup (bytes_eq q) (repositories rest))) empty_repository
            ≡ unwrap_or (cond b (Some n.repository) (lookup (bytes_eq q) (repositories ns)))
            empty_repository
        among true later = refl
        among false later = later
    by false worth true here later =
        let same : q ≡ n.tenant = (bytes_eq-Decides q n.tenant).0 here in
        later
        ∙ ap (λ (o : Option Repository). unwrap_or o empty_repository)
        (absent q ns (rw same distinct.0))
        ∙ sym (loses n (inl refl) worth)
    by false worth false here later = later

-- ---- of a service

last-or : (o : Option TenantState)
    → unwrap_or (option_map last_held o) empty_repository ≡ last_held (unwrap_or o (Idle empty_repository))
last-or None = refl
last-or (Some held) = refl

lookup-last : (q : List ℕ) (all : TenantStates) → lookup (bytes_eq q) (repositories (last_named all))
    ≡ option_map last_held (lookup (bytes_eq q) all)
lookup-last q [] = refl
lookup-last q (e ∷ es) = by (bytes_eq q e.0) (lookup-last q es)
  where
    by : (b : Bool) → lookup (bytes_eq q) (repositories (last_named es))
        ≡ option_map last_held (lookup (bytes_eq q) es)
        → cond b (Some (last_held e.1)) (lookup (bytes_eq q) (repositories (last_named es)))
        ≡ option_map last_held (cond b (Some e.1) (lookup (bytes_eq q) es))
    by true rest = refl
    by false rest = rest

last-repository : (q : List ℕ) (all : TenantStates)
    → repository_of q (last_named all) ≡ last_held (held_of q all)
last-repository q all =
    ap (λ (o : Option Repository). unwrap_or o empty_repository) (lookup-last q all)
    ∙ last-or (lookup (bytes_eq q) all)

keys-last : (all : TenantStates) → map (λ n. n.tenant) (last_named all) ≡ keys_of all
keys-last [] = refl
keys-last (e ∷ es) = ap (λ (names : List (List ℕ)). e.0 ∷ names) (keys-last es)

-- where no tenant loses anything, what is saved is what is held at the last checkpoint
pub saved-repository : (q : List ℕ) (all : TenantStates) → IsDistinct bytes_eq (keys_of all)
    → LosesNothing (last_named all) → repository_of q (saved_of all) ≡ last_held (held_of q all)
saved-repository q all distinct loses =
    listed-repository q (filter is_worth_saving (last_named all))
    ∙ worth-repository q (last_named all)
    (rw (keys-last all) distinct)
    loses
    ∙ last-repository q all

-- ---- what is not worth saving

no_objects : (os : List Object) → nat_lt 0 (length os) ≡ false → os ≡ []
no_objects [] e = refl
no_objects (o ∷ os) e =
    let some : nat_lt 0 (length (o ∷ os)) ≡ true = grind (arith, nat_tests) in
    absurd (true≢false (sym some ∙ e))

neither : (a b : Bool) → a || b ≡ false → (a ≡ false) × (b ≡ false)
neither true b e = cc e
neither false b e = (refl, e)

not_false : (b : Bool) → not b ≡ false → b ≡ true
not_false true e = refl
not_false false e = cc e

holds_nothing : (ref id : List ℕ) → MayHold [] ref id → ⊥
unfolding object_named
holds_nothing ref id (inl commit) = cc commit
holds_nothing ref id (inr tag) = let t = tag.2.0 in cc t

none_held : (m : RefMap) → ((ref id : List ℕ) → get m ref ≡ Some id → ⊥) → m ≡ empty
none_held m none =
    same_map nat_list_cmp_total key_exact m empty (λ q. by q (get m q) refl ∙ sym (get-empty key_cmp q))
  where
    by : (q : List ℕ) (o : Option (List ℕ)) → get m q ≡ o → get m q ≡ None
    by q None is = is
    by q (Some id) is = absurd (none q id is)

-- refs of no objects are none
no_refs_of : (store : RefStore) → AreRefs [] store → store.head ≡ first_head → store ≡ no_refs
no_refs_of store are head =
    let none = none_held store.refs
    (λ ref id held. holds_nothing ref id (are.targets ref id held)) in
    λ i. record { refs = none i; head = head i }

pub empty_of : (n : Named) → AreRefs n.repository.objects n.repository.refs
    → is_worth_saving n ≡ false → n.repository ≡ empty_repository
empty_of n are worth =
    let w = neither (nat_lt 0 (length n.repository.objects))
    (not (bytes_eq n.repository.refs.head first_head)) worth in
    let none = no_objects n.repository.objects w.0 in
    let head = (bytes_eq-Decides n.repository.refs.head first_head).0
    (not_false (bytes_eq n.repository.refs.head first_head) w.1) in
    let refs = no_refs_of n.repository.refs
    (rw (← none) are) head in
    λ i. record { objects = none i; refs = refs i }

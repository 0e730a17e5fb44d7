-- The members of a list in an order, each once: the keys of a map of them, and a list that is sorted
-- and freed of doubles.
use Rattle.std.proofs.Common.{◌≡◌, Bool, true, false, ◌&&◌, ◌||◌, cond, T, List, [], ◌∷◌, map, Some, None, is_some, refl, sym, ap, subst, ◌∙◌, ◌↔◌}
use Rattle.std.specs.declared.cmp.Ordering.{Ordering}
use Rattle.std.specs.declared.cmp.Ordering.TheVariants.{Less, Equal, Greater}
use Rattle.std.specs.Ordering.{is_lt, is_eq, eq_by_cmp}
use Rattle.std.specs.List.{Contains, list_any, AllByRecursion, dedup, dedup_from}
use Rattle.std.specs.List.Sorted.{IsSorted, IsStrictlySortedBy, IsPermutation}
use Rattle.std.specs.Cmp.{IsTotalOrder}
use Rattle.std.specs.FinMap as finmap
use Rattle.std.specs.FinMap.{IsAntisymmetric, entries, entries_sorted, get-from_entries, contains_key-keys}
use Rattle.std.specs.FinMap.Entries.{find, is_sorted, below_all, same_entries}
use Rattle.std.proofs.lemmas.Cmp.{eq_by_cmp_equiv}
use Rattle.std.proofs.lemmas.List.Kept.{IsStrictlySortedBy-dedup}
use Rattle.std.proofs.lemmas.List.Sorted.{list_any-IsPermutation}
use Rattle.std.proofs.lemmas.Map.Views.{list_any-from_Contains, Contains-from_any}

true-T : (b : Bool) → b ≡ true → T b
true-T b e = subst T (sym e) tt

both : (a b : Bool) → T a → T b → T (a && b)
both true b p q = q
both false b p q = p

first : (a b : Bool) → T (a && b) → T a
first true b p = tt
first false b p = p

second : (a b : Bool) → T (a && b) → T b
second true b p = p
second false b p = absurd p

less : (o : Ordering) → T (is_lt o) → o ≡ Less
less Less p = refl
less Equal p = absurd p
less Greater p = absurd p

equal : (r : Ordering) → is_eq r ≡ true → r ≡ Equal
equal Less e = cc
equal Equal e = refl
equal Greater e = cc

from_tests : (a b : Bool) → (a ≡ true → b ≡ true) → (b ≡ true → a ≡ true) → a ≡ b
from_tests true b f g = sym (f refl)
from_tests false true f g = g refl
from_tests false false f g = refl

-- a key with nothing beside it
abbrev unit : {K : Type 0} → K → K × Unit {0}
unit k = (k, tt {0})

-- the members of a list in the order R, each once
abbrev pub in_order : {K : Type 0} → (K → K → Ordering) → List K → List K
in_order R ks = finmap.keys (finmap.from_entries {R = R} (map unit ks))

module _ {K : Type 0} (R : K → K → Ordering) where
  below_units : (x : K) (ks : List K) → AllByRecursion (λ y. R x y ≡ Less) ks
      → T (below_all R x (map unit ks))
  below_units x [] h = tt
  below_units x (k ∷ ks) h =
      both (is_lt (R x k)) _ (subst (λ (r : Ordering). T (is_lt r)) (sym h.0) tt) (below_units x ks h.1)

  sorted_units : (ks : List K) → IsStrictlySortedBy R ks → T (is_sorted R (map unit ks))
  unfolding IsStrictlySortedBy
  sorted_units [] h = tt
  sorted_units (k ∷ ks) h = both _ _ (below_units k ks h.0) (sorted_units ks h.1)

  below_keys : (x : K) (es : List (K × Unit {0})) → T (below_all R x es)
      → AllByRecursion (λ y. R x y ≡ Less) (map (λ e. e.0) es)
  below_keys x [] h = tt
  below_keys x (e ∷ es) h = (less _ (first _ _ h), below_keys x es (second _ _ h))

  sorted_keys : (es : List (K × Unit {0})) → T (is_sorted R es)
      → IsStrictlySortedBy R (map (λ e. e.0) es)
  unfolding IsStrictlySortedBy
  sorted_keys [] h = tt
  sorted_keys (e ∷ es) h = (below_keys e.0 es (first _ _ h), sorted_keys es (second _ _ h))

  keys_of_units : (ks : List K) → map (λ e. e.0) (map unit ks) ≡ ks
  keys_of_units [] = refl
  keys_of_units (k ∷ ks) = ap (λ (xs : List K). k ∷ xs) (keys_of_units ks)

  find_units : (q : K) (ks : List K)
      → find R q (map unit ks) ≡ cond (list_any (eq_by_cmp R q) ks) (Some (tt {0})) None
  find_units q [] = refl
  find_units q (k ∷ ks) = by (eq_by_cmp R q k) (find_units q ks)
    where
      by : (b : Bool)
          → find R q (map unit ks) ≡ cond (list_any (eq_by_cmp R q) ks) (Some (tt {0})) None
          → cond b (Some (tt {0})) (find R q (map unit ks))
          ≡ cond (b || list_any (eq_by_cmp R q) ks) (Some (tt {0})) None
      by true h = refl
      by false h = h

  module _ (o : IsTotalOrder R) (same : IsAntisymmetric R) where
    -- two strictly sorted lists with the same members are one
    only_one : (xs ys : List K) → IsStrictlySortedBy R xs → IsStrictlySortedBy R ys
        → ((q : K) → list_any (eq_by_cmp R q) xs ≡ list_any (eq_by_cmp R q) ys) → xs ≡ ys
    only_one xs ys hx hy is =
        sym (keys_of_units xs)
        ∙ ap (map (λ (e : K × Unit {0}). e.0))
        (same_entries R o same (map unit xs) (map unit ys) (sorted_units xs hx) (sorted_units ys hy)
        (λ q. find_units q xs
        ∙ ap (λ (b : Bool). cond b (Some (tt {0})) None) (is q)
        ∙ sym (find_units q ys)))
        ∙ keys_of_units ys

    pub in_order_sorted : (ks : List K) → IsStrictlySortedBy R (in_order R ks)
    in_order_sorted ks = sorted_keys (entries (finmap.from_entries {R = R} (map unit ks))) (entries_sorted _)

    is_some_cond : (b : Bool) → is_some (cond b (Some (tt {0})) None) ≡ b
    is_some_cond true = refl
    is_some_cond false = refl

    tests_in_order : (ks : List K) (q : K)
        → list_any (eq_by_cmp R q) (in_order R ks) ≡ list_any (eq_by_cmp R q) ks
    tests_in_order ks q =
        sym (contains_key-keys (finmap.from_entries {R = R} (map unit ks)) q)
        ∙ ap is_some (get-from_entries o (map unit ks) q ∙ find_units q ks)
        ∙ is_some_cond (list_any (eq_by_cmp R q) ks)

    tied : (x y : K) → eq_by_cmp R x y ≡ true → x ≡ y
    tied x y e = same x y (equal (R x y) e)

    test_of : (q : K) (ks : List K) → Contains ks q → list_any (eq_by_cmp R q) ks ≡ true
    test_of q ks h = list_any-from_Contains (eq_by_cmp_equiv o) q ks h

    among : (q : K) (ks : List K) → list_any (eq_by_cmp R q) ks ≡ true → Contains ks q
    among q ks e = Contains-from_any tied q ks e

    -- it has the members of the list
    pub in_order_members : (ks : List K) (q : K) → Contains (in_order R ks) q ↔ Contains ks q
    in_order_members ks q = (
      λ h. among q ks (sym (tests_in_order ks q) ∙ test_of q (in_order R ks) h),
      λ h. among q (in_order R ks) (tests_in_order ks q ∙ test_of q ks h),
    )

    -- and is the only strictly sorted list with them
    pub only_in_order : (ks xs : List K) → IsStrictlySortedBy R xs
        → ((q : K) → Contains xs q ↔ Contains ks q) → xs ≡ in_order R ks
    only_in_order ks xs sorted members =
        only_one xs (in_order R ks) sorted (in_order_sorted ks)
        (λ q. from_tests (list_any (eq_by_cmp R q) xs) (list_any (eq_by_cmp R q) ks)
        (λ e. test_of q ks ((members q).0 (among q xs e)))
        (λ e. test_of q xs ((members q).1 (among q ks e)))
        ∙ sym (tests_in_order ks q))

-- ---- a list that is sorted and freed of doubles

or_again : (a c : Bool) → (a || (a || c)) ≡ (a || c)
or_again true c = refl
or_again false c = refl

module _ {K : Type 0} (R : K → K → Ordering) (o : IsTotalOrder R) (same : IsAntisymmetric R)
    (E : K → K → Bool) (ties : (x y : K) → E x y ≡ eq_by_cmp R x y) where
  any_kept : (q k : K) (xs : List K)
      → list_any (eq_by_cmp R q) (dedup_from E k xs) ≡ (eq_by_cmp R q k || list_any (eq_by_cmp R q) xs)
  any_kept q k [] = refl
  any_kept q k (x ∷ xs) = by (any_kept q k xs) (any_kept q x xs) (E x k) refl
    where
      by : list_any (eq_by_cmp R q) (dedup_from E k xs)
          ≡ (eq_by_cmp R q k || list_any (eq_by_cmp R q) xs)
          → list_any (eq_by_cmp R q) (dedup_from E x xs)
          ≡ (eq_by_cmp R q x || list_any (eq_by_cmp R q) xs)
          → (b : Bool) → E x k ≡ b
          → list_any (eq_by_cmp R q) (cond b (dedup_from E k xs) (k ∷ dedup_from E x xs))
          ≡ (eq_by_cmp R q k || (eq_by_cmp R q x || list_any (eq_by_cmp R q) xs))
      by as_k as_x true e =
          let one = same x k (equal (R x k) (sym (ties x k) ∙ e)) in
          as_k ∙ sym (or_again (eq_by_cmp R q k) (list_any (eq_by_cmp R q) xs))
          ∙ ap (λ (y : K). eq_by_cmp R q k || (eq_by_cmp R q y || list_any (eq_by_cmp R q) xs)) (sym one)
      by as_k as_x false e = ap (λ (b : Bool). eq_by_cmp R q k || b) as_x

  any_dedup : (q : K) (xs : List K)
      → list_any (eq_by_cmp R q) (dedup E xs) ≡ list_any (eq_by_cmp R q) xs
  any_dedup q [] = refl
  any_dedup q (x ∷ xs) = any_kept q x xs

  -- a permutation that is sorted, without doubles
  pub sorted_in_order : (ks ys : List K) → IsPermutation ks ys → IsSorted R ys
      → dedup E ys ≡ in_order R ks
  sorted_in_order ks ys perm sorted =
      only_in_order R o same ks (dedup E ys) (IsStrictlySortedBy-dedup o ties ys sorted) members
    where
      tests : (q : K) → list_any (eq_by_cmp R q) (dedup E ys) ≡ list_any (eq_by_cmp R q) ks
      tests q = any_dedup q ys ∙ sym (list_any-IsPermutation (eq_by_cmp R q) ks ys perm)

      members : (q : K) → Contains (dedup E ys) q ↔ Contains ks q
      members q = (
        λ h. among R o same q ks (sym (tests q) ∙ test_of R o same q (dedup E ys) h),
        λ h. among R o same q (dedup E ys) (tests q ∙ test_of R o same q ks h),
      )

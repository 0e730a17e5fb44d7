-- The digits that a name shares with others.
use Rattle.std.proofs.Common.{◌≡◌, ◌≢◌, ℕ, zero, suc, ◌+◌, ◌-◌, ◌*◌, ◌/◌, ◌≤◌, ◌<◌, max, Bool, true, false, if◌then◌else◌, ◌⊎◌, inl, inr, List, [], ◌∷◌, ◌++◌, length, take, get_or, IsPermutation, refl, sym, ap, subst, ◌∙◌, arith, le_trans}
use Rattle.std.specs.Prelude.{◌==◌, All, IsSorted}
use Rattle.std.specs.Cmp.{nat_cmp_is}
use Rattle.std.specs.Cmp.Lexicographic.{slice_cmp, nat_list_cmp_total}
use Rattle.std.specs.List.{AllWithin}
use Rattle.std.specs.List.Sorted.{IsPartitionPoint}
use Rattle.std.specs.Ordering.{nat_cmp, is_lt, ord_max, ordering_index, ordering_reverse, ordering_then}
use Rattle.std.specs.Str.{bytes_eq}
use Rattle.std.specs.declared.cmp.Ordering.{Ordering}
use Rattle.std.specs.declared.cmp.Ordering.TheVariants.{Less, Equal, Greater}
use Rattle.std.proofs.lemmas.Bool.{cases_eq, cases_lt}
use Rattle.std.proofs.lemmas.Bool.Decides.{nat_tests}
use Rattle.std.proofs.lemmas.List.{take_all, take_more}
use Rattle.std.proofs.lemmas.List.Elements.{All-head, All-tail, All-from_get_or}
use Rattle.std.proofs.lemmas.List.Sorted.{All-permutation, IsPermutation-sym}
use Rattle.std.proofs.lemmas.Slice.Eq.{bytes_eq-Decides}
use Rattle.name_index.specs.Index.{IsIndex, added_of, committed_of, is_before, most_shared, names_of, shared_apart, shared_digits}
use Rattle.name_index.proofs.Counted.{all_names, names_of-more}
use Rattle.name_index.proofs.Searched.{rises}
use mir.Val.{bool_byte}

-- ---- two names

yes : (a b : ℕ) → a ≡ b → (a == b) ≡ true
yes a b e = grind (arith, nat_tests)

no : (a b : ℕ) → a ≢ b → (a == b) ≡ false
no a b e = grind (arith, nat_tests)

other_name : (a b : List ℕ) → a ≢ b → bytes_eq a b ≡ false
other_name a b other = by (bytes_eq a b) refl
  where
    by : (t : Bool) → bytes_eq a b ≡ t → t ≡ false
    by true e = absurd (other ((bytes_eq-Decides a b).0 e))
    by false e = refl

same_name : (a : List ℕ) → bytes_eq a a ≡ true
same_name a = (bytes_eq-Decides a a).1 refl

none_apart : (a b : List ℕ) → a ≡ b → 0 ≡ shared_apart a b
none_apart a b e = subst (λ (c : List ℕ). 0 ≡ shared_apart a c) e (rw (same_name a) refl)

-- names that first differ at a byte
first_apart : (a b : List ℕ) (i : ℕ) → i < length a → i < length b → take i a ≡ take i b
    → get_or a i 0 ≢ get_or b i 0
    → shared_digits a b ≡ 2 * i + (if get_or a i 0 / 16 == get_or b i 0 / 16 then 1 else 0)
first_apart [] b i m n e other = absurd (omega arith)
first_apart (x ∷ a) [] i m n e other = absurd (omega arith)
first_apart (x ∷ a) (y ∷ b) zero m n e other = rw (no x y other) (omega arith)
first_apart (x ∷ a) (y ∷ b) (suc i) m n e other =
    let heads : x ≡ y = cc in
    let tails : take i a ≡ take i b = cc in
    let rest = first_apart a b i (omega arith) (omega arith) tails other in
    rw (yes x y heads) (omega (arith, rest))

bool_byte-is : (b : Bool) → bool_byte b ≡ (if b then 1 else 0)
bool_byte-is true = refl
bool_byte-is false = refl

pub differ_at : (a b : List ℕ) (i h : ℕ) → length a ≡ 20 → length b ≡ 20 → i < 20
    → take i a ≡ take i b → get_or a i 0 ≢ get_or b i 0
    → h ≡ bool_byte (get_or a i 0 / 16 == get_or b i 0 / 16) → 2 * i + h ≡ shared_apart a b
differ_at a b i h n m lt e apart is =
    let first = first_apart a b i (omega arith) (omega arith) e apart in
    let half = is ∙ bool_byte-is _ in
    rw (other_name b a (λ same. apart (ap (λ (x : List ℕ). get_or x i 0) (sym same))))
    (omega (arith, first, half))

pub same_through : (a b : List ℕ) (i : ℕ) → length a ≡ 20 → length b ≡ 20 → 20 ≤ i
    → take i a ≡ take i b → 0 ≡ shared_apart a b
same_through a b i n m le e =
    none_apart a b (sym (take_all i a (omega arith)) ∙ e ∙ take_all i b (omega arith))

-- ---- of three names in order, those next to each other share most

digits_at : ℕ → ℕ → ℕ → ℕ
digits_at z x more = if z == x then 2 + more else if z / 16 == x / 16 then 1 else 0

one_or_none : (b : Bool) (n : ℕ) → (if b then 1 else 0) ≤ 2 + n
one_or_none true n = omega arith
one_or_none false n = omega arith

nearer_byte : (z y x m n : ℕ) → (z ≡ x → z ≡ y) → (z / 16 ≡ x / 16 → z / 16 ≡ y / 16)
    → (z ≡ x → m ≤ n) → digits_at z x m ≤ digits_at z y n
unfolding digits_at
nearer_byte z y x m n same half more =
    elim (cases_eq z x) [
      | inl here ↦ rw (yes z x here, yes z y (same here)) (let le = more here in omega arith)
      | inr other ↦ rw (no z x other) (by (cases_eq z y))
    ]
  where
    halves : (z / 16 ≡ x / 16) ⊎ (z / 16 ≢ x / 16)
        → (if z / 16 == x / 16 then 1 else 0) ≤ (if z / 16 == y / 16 then 1 else 0)
    halves (inl e) = rw (yes _ _ e, yes _ _ (half e)) (omega arith)
    halves (inr e) = rw (no _ _ e) (omega arith)

    by : (z ≡ y) ⊎ (z ≢ y) → (if z / 16 == x / 16 then 1 else 0) ≤ digits_at z y n
    by (inl e) = rw (yes z y e) (one_or_none _ n)
    by (inr e) = rw (no z y e) (halves (cases_eq (z / 16) (x / 16)))

equal_first : (x y : ℕ) (X : Ordering) → x ≡ y → ordering_then (nat_cmp x y) X ≡ X
equal_first x y X e = rw (sym (nat_cmp_is x y Equal e)) refl

not_after : (x y : ℕ) (X : Ordering) → ordering_index (ordering_then (nat_cmp x y) X) ≤ 1
    → (x ≤ y) × (x ≡ y → ordering_index X ≤ 1)
not_after x y X h =
    elim (cases_lt y x) [
      | inl above ↦ absurd (let lost = rw (sym (nat_cmp_is x y Greater above)) at h in omega arith)
      | inr le ↦ (le, λ e. rw (equal_first x y X e) at h)
    ]

not_before : (x y : ℕ) (X : Ordering) → 1 ≤ ordering_index (ordering_then (nat_cmp x y) X)
    → (y ≤ x) × (x ≡ y → 1 ≤ ordering_index X)
not_before x y X h =
    elim (cases_lt x y) [
      | inl below ↦ absurd (let lost = rw (sym (nat_cmp_is x y Less below)) at h in omega arith)
      | inr le ↦ (le, λ e. rw (equal_first x y X e) at h)
    ]

nearer_before : (id b a : List ℕ) → ordering_index (slice_cmp nat_cmp a b) ≤ 1
    → ordering_index (slice_cmp nat_cmp b id) ≤ 1 → shared_digits id a ≤ shared_digits id b
unfolding digits_at
nearer_before [] b a h g = omega arith
nearer_before (z ∷ id) b [] h g = omega arith
nearer_before (z ∷ id) [] (x ∷ a) h g = absurd (omega arith)
nearer_before (z ∷ id) (y ∷ b) (x ∷ a) h g =
    let low = not_after x y _ h in
    let high = not_after y z _ g in
    let le = low.0 in
    let le_too = high.0 in
    nearer_byte z y x _ _ (λ e. omega arith) (λ e. omega arith)
    (λ e. nearer_before id b a (low.1 (omega arith)) (high.1 (omega arith)))

nearer_after : (id b a : List ℕ) → 1 ≤ ordering_index (slice_cmp nat_cmp a b)
    → 1 ≤ ordering_index (slice_cmp nat_cmp b id) → shared_digits id a ≤ shared_digits id b
unfolding digits_at
nearer_after [] b a h g = omega arith
nearer_after (z ∷ id) b [] h g = omega arith
nearer_after (z ∷ id) [] (x ∷ a) h g = absurd (omega arith)
nearer_after (z ∷ id) (y ∷ b) (x ∷ a) h g =
    let low = not_before x y _ h in
    let high = not_before y z _ g in
    let le = low.0 in
    let le_too = high.0 in
    nearer_byte z y x _ _ (λ e. omega arith) (λ e. omega arith)
    (λ e. nearer_after id b a (low.1 (omega arith)) (high.1 (omega arith)))

apart_le : (id b a : List ℕ) → b ≢ id → shared_digits id a ≤ shared_digits id b
    → shared_apart id a ≤ shared_apart id b
apart_le id b a other le = rw (other_name b id other) (by (bytes_eq a id))
  where
    by : (t : Bool) → (if t then 0 else shared_digits id a) ≤ shared_digits id b
    by true = omega arith
    by false = le

-- ---- the most of several names

pub max_is : (a b : ℕ) → ord_max nat_cmp a b ≡ max a b
max_is a b = grind (arith, nat_tests)

pub most_shared-append : (id : List ℕ) (xs ys : List (List ℕ))
    → most_shared id (xs ++ ys) ≡ max (most_shared id xs) (most_shared id ys)
most_shared-append id [] ys = omega arith
most_shared-append id (x ∷ xs) ys = let rest = most_shared-append id xs ys in omega (arith, rest)

pub at_most : (id : List ℕ) (xs : List (List ℕ)) (v : ℕ) → All (λ x. shared_apart id x ≤ v) xs
    → most_shared id xs ≤ v
at_most id [] v h = omega arith
at_most id (x ∷ xs) v h =
    let first = All-head (λ (y : List ℕ). shared_apart id y ≤ v) x xs h in
    let rest = at_most id xs v (All-tail (λ (y : List ℕ). shared_apart id y ≤ v) x xs h) in
    omega (arith, first, rest)

pub reached : (id : List ℕ) (xs : List (List ℕ)) → All (λ x. shared_apart id x ≤ most_shared id xs) xs
reached id [] k d lt = absurd (omega arith)
reached id (x ∷ xs) zero d lt = omega arith
reached id (x ∷ xs) (suc k) d lt = let rest = reached id xs k d (omega arith) in omega (arith, rest)

no_more : (id : List ℕ) (xs ys : List (List ℕ)) → IsPermutation xs ys
    → most_shared id ys ≤ most_shared id xs
no_more id xs ys same =
    at_most id ys _ (All-permutation (λ x. shared_apart id x ≤ most_shared id xs) xs ys same (reached id xs))

pub most_shared-IsPermutation : (id : List ℕ) (xs ys : List (List ℕ)) → IsPermutation xs ys
    → most_shared id xs ≡ most_shared id ys
most_shared-IsPermutation id xs ys same =
    let le = no_more id xs ys same in
    let ge = no_more id ys xs (IsPermutation-sym xs ys same) in
    omega (arith, le, ge)

-- of one name more, or of one run more
pub one_more : (id : List ℕ) (xs : List (List ℕ)) (i : ℕ) (d : List ℕ) → i < length xs
    → most_shared id (take (i + 1) xs)
    ≡ max (most_shared id (take i xs)) (shared_apart id (get_or xs i d))
one_more id xs i d lt =
    let all = ap (most_shared id) (take_more xs i d lt)
    ∙ most_shared-append id (take i xs) (get_or xs i d ∷ []) in
    omega (arith, all)

pub one_run_more : (id : List ℕ) (runs : List (List (List ℕ))) (i : ℕ) (d : List (List ℕ))
    → i < length runs
    → most_shared id (names_of (take (i + 1) runs))
    ≡ max (most_shared id (names_of (take i runs))) (most_shared id (get_or runs i d))
one_run_more id runs i d lt =
    ap (most_shared id) (names_of-more runs i d lt)
    ∙ most_shared-append id (names_of (take i runs)) (get_or runs i d)

-- of all names, and of the committed ones, where these are the fields
pub most_in_sight : (id : List ℕ) (runs : List (List (List ℕ))) (few : List (List ℕ)) (base : ℕ)
    (closed : Bool)
    → IsIndex runs base closed
    → max (most_shared id (names_of runs)) (most_shared id few)
    ≡ most_shared id (committed_of runs few base closed ++ added_of runs few base closed)
most_in_sight id runs few base closed h =
    sym (most_shared-append id (names_of runs) few)
    ∙ ap (λ rs. most_shared id (names_of rs ++ few)) (sym (take_all (length runs) runs (omega arith)))
    ∙ ap (most_shared id) (all_names runs few base closed h)

pub most_committed : (id : List ℕ) (runs : List (List (List ℕ))) (few : List (List ℕ)) (base : ℕ)
    (closed : Bool)
    → closed ≡ true
    → max (most_shared id (names_of (take base runs))) (most_shared id few)
    ≡ most_shared id (committed_of runs few base closed)
most_committed id runs few base closed is =
    rw is (sym (most_shared-append id (names_of (take base runs)) few))

-- ---- names in order

itself : (x : List ℕ) → slice_cmp nat_cmp x x ≡ Equal
itself x = by (slice_cmp nat_cmp x x) (nat_list_cmp_total.antisymm x x)
  where
    by : (r : Ordering) → r ≡ ordering_reverse r → r ≡ Equal
    by Less e = cc e
    by Equal e = refl
    by Greater e = cc e

index_before : (r : Ordering) → is_lt r ≡ true → ordering_index r ≤ 1
index_before Less e = omega arith
index_before Equal e = cc e
index_before Greater e = cc e

index_from : (r : Ordering) → is_lt r ≡ false → 1 ≤ ordering_index r
index_from Less e = cc e
index_from Equal e = omega arith
index_from Greater e = omega arith

not_itself : (b id : List ℕ) → is_before id b ≡ true → b ≢ id
not_itself b id before e =
    let lost : false ≡ true =
    sym (ap is_lt (itself id)) ∙ sym (ap (λ (x : List ℕ). is_before id x) e) ∙ before in
    cc lost

-- those next to the place of a name share most with it
module _ (id : List ℕ) (xs : List (List ℕ)) (start end v : ℕ) (sorted : IsSorted (slice_cmp nat_cmp) xs)
    (within : start ≤ length xs)
    (from : IsPartitionPoint (λ x. is_before id x ≡ true) (λ x. is_before id x ≡ false) xs start)
    (forward : start ≤ end) (same : AllWithin (λ x. x ≡ id) xs start end)
    (next : end < length xs → get_or xs end id ≢ id)
    (at_next : end < length xs → shared_apart id (get_or xs end id) ≤ v)
    (at_last : 0 < start → shared_apart id (get_or xs (start - 1) id) ≤ v) where
  before : (k : ℕ) → k < start → shared_apart id (get_or xs k id) ≤ v
  before k lt =
      let b = get_or xs (start - 1) id in
      let last = from.0 (start - 1) id (omega arith) (omega arith) in
      let up = rises xs b sorted k (start - 1) id (omega arith) (omega arith) in
      let low : ordering_index (slice_cmp nat_cmp (get_or xs k id) b) ≤ 1 =
      subst (λ (r : Ordering). ordering_index (slice_cmp nat_cmp (get_or xs k id) b) ≤ ordering_index r) (itself b) up in
      le_trans
      (apart_le id b (get_or xs k id) (not_itself b id last) (nearer_before id b (get_or xs k id) low (index_before _ last)))
      (at_last (omega arith))

  beyond : (k : ℕ) → end ≤ k → k < length xs → shared_apart id (get_or xs k id) ≤ v
  beyond k le lt =
      let b = get_or xs end id in
      let up = rises xs b sorted end k id le lt in
      let high : 1 ≤ ordering_index (slice_cmp nat_cmp (get_or xs k id) b) =
      subst (λ (r : Ordering). ordering_index r ≤ ordering_index (slice_cmp nat_cmp (get_or xs k id) b)) (itself b) up in
      let first = from.1 end id forward (omega arith) in
      le_trans
      (apart_le id b (get_or xs k id) (next (omega arith)) (nearer_after id b (get_or xs k id) high (index_from _ first)))
      (at_next (omega arith))

  each : (k : ℕ) → k < length xs → shared_apart id (get_or xs k id) ≤ v
  each k lt = elim (cases_lt k start) [
    | inl low ↦ before k low
    | inr le ↦
        elim (cases_lt k end) [
          | inl inside ↦
              let none = none_apart id (get_or xs k id) (sym (same k id le inside)) in omega (arith, none)
          | inr past ↦ beyond k past lt
        ]
  ]

  pub nearest : most_shared id xs ≤ v
  nearest = at_most id xs v (All-from_get_or (λ x. shared_apart id x ≤ v) xs id each)

-- The sum over the distinct members of a list is one for all lists with the same members.
use Rattle.std.proofs.Common.{◌≡◌, ℕ, ◌+◌, ◌≤◌, ◌||◌, Bool, true, false, cond, List, [], ◌∷◌, length, sum_by, refl, sym, ap, ◌∙◌, arith, inl, inr}
use Rattle.std.specs.Bool.{Decides}
use Rattle.std.specs.List.{AllByRecursion, IsDistinct}
use Rattle.std.specs.Set.{is_member, remove_key, unique_keys}
use Rattle.std.proofs.lemmas.Bool.{true≢false, cases_Bool}
use Rattle.std.proofs.lemmas.List.Sums.{sum_by-cons}
use Rattle.std.proofs.lemmas.List.Sorted.{IsPermutation-refl}
use Rattle.std.proofs.lemmas.Map.Made.{sum_by-remove_same}

-- A list is as long as the sum of a 1 for each of its items.
pub length-sum_by : {K : Type 0} (xs : List K) → sum_by (λ _. 1) xs ≡ length xs
length-sum_by [] = refl
length-sum_by (x ∷ xs) = omega (arith, sum_by-cons (λ _. 1) x xs, length-sum_by xs)

absent_from_apart : {K : Type 0} (eq : K → K → Bool) (x : K) (ys : List K)
    → AllByRecursion (λ y. eq x y ≡ false) ys → is_member eq ys x ≡ false
absent_from_apart eq x [] a = refl
absent_from_apart eq x (y ∷ ys) a =
    ap (λ b. b || is_member eq ys x) a.0 ∙ absent_from_apart eq x ys a.1

-- What is not in a list is apart from each of its items.
pub apart_from_absent : {K : Type 0} (eq : K → K → Bool) (x : K) (ys : List K)
    → is_member eq ys x ≡ false → AllByRecursion (λ y. eq x y ≡ false) ys
apart_from_absent eq x [] h = tt
apart_from_absent eq x (y ∷ ys) h = by (eq x y) refl h (apart_from_absent eq x ys)
  where
    by : (b : Bool) → eq x y ≡ b → (b || is_member eq ys x) ≡ false
        → (is_member eq ys x ≡ false → AllByRecursion (λ y'. eq x y' ≡ false) ys)
        → (eq x y ≡ false) × AllByRecursion (λ y'. eq x y' ≡ false) ys
    by true t g r = absurd (true≢false g)
    by false t g r = (t, r g)

-- A list without doubles is its own list of distinct members.
pub unique_keys-distinct : {K : Type 0} (eq : K → K → Bool) (xs : List K) → IsDistinct eq xs
    → unique_keys eq xs ≡ xs
unfolding IsDistinct
unique_keys-distinct eq [] d = refl
unique_keys-distinct eq (x ∷ xs) d =
    ap (λ b. cond b (unique_keys eq xs) (x ∷ unique_keys eq xs)) (absent_from_apart eq x xs d.0)
    ∙ ap (λ ys. x ∷ ys) (unique_keys-distinct eq xs d.1)

module _ {K : Type 0} {eq : K → K → Bool} (same : (a b : K) → Decides (eq a b) (a ≡ b)) where
  eq_refl : (x : K) → eq x x ≡ true
  eq_refl x = (same x x).1 refl

  eq_flip : (x y : K) → eq x y ≡ false → eq y x ≡ false
  eq_flip x y apart =
      elim (cases_Bool (eq y x)) [
        | inl alike ↦ absurd (true≢false (sym ((same x y).1 (sym ((same y x).0 alike))) ∙ apart))
        | inr differs ↦ differs
      ]

  apart_from_member : (x q : K) (ys : List K) → AllByRecursion (λ y. eq x y ≡ false) ys
      → is_member eq ys q ≡ true → eq x q ≡ false
  apart_from_member x q [] a m = absurd (true≢false (sym m))
  apart_from_member x q (y ∷ ys) a m = by (eq q y) refl m (apart_from_member x q ys a.1)
    where
      by : (b : Bool) → eq q y ≡ b → (b || is_member eq ys q) ≡ true
          → (is_member eq ys q ≡ true → eq x q ≡ false) → eq x q ≡ false
      by true t g r = ap (eq x) ((same q y).0 t) ∙ a.0
      by false t g r = r g

  is_member-remove_key : (x q : K) (ys : List K) → eq x q ≡ false
      → is_member eq (remove_key (eq x) ys) q ≡ is_member eq ys q
  is_member-remove_key x q [] n = refl
  is_member-remove_key x q (y ∷ ys) n = by (eq x y) refl (is_member-remove_key x q ys n)
    where
      by : (b : Bool) → eq x y ≡ b → is_member eq (remove_key (eq x) ys) q ≡ is_member eq ys q
          → is_member eq (cond b ys (y ∷ remove_key (eq x) ys)) q ≡ (eq q y || is_member eq ys q)
      by true t r =
          ap (λ c. c || is_member eq ys q) (sym (ap (eq q) (sym ((same x y).0 t)) ∙ eq_flip x q n))
      by false t r = ap (λ c. eq q y || c) r

  is_member-unique_keys : (xs : List K) (q : K)
      → is_member eq (unique_keys eq xs) q ≡ is_member eq xs q
  is_member-unique_keys [] q = refl
  is_member-unique_keys (x ∷ xs) q =
      by (is_member eq xs x) (eq q x) refl refl (is_member-unique_keys xs q)
    where
      by : (b c : Bool) → is_member eq xs x ≡ b → eq q x ≡ c
          → is_member eq (unique_keys eq xs) q ≡ is_member eq xs q
          → is_member eq (cond b (unique_keys eq xs) (x ∷ unique_keys eq xs)) q
          ≡ (c || is_member eq xs q)
      by true true m t r = r ∙ ap (is_member eq xs) ((same q x).0 t) ∙ m
      by true false m t r = r
      by false c m t r = rw t (ap (λ v. c || v) r)

  IsDistinct-unique_keys : (xs : List K) → IsDistinct eq (unique_keys eq xs)
  unfolding IsDistinct
  IsDistinct-unique_keys [] = tt
  IsDistinct-unique_keys (x ∷ xs) = by (is_member eq xs x) refl (IsDistinct-unique_keys xs)
    where
      by : (b : Bool) → is_member eq xs x ≡ b → IsDistinct eq (unique_keys eq xs)
          → IsDistinct eq (cond b (unique_keys eq xs) (x ∷ unique_keys eq xs))
      by true m r = r
      by false m r =
          (apart_from_absent eq x (unique_keys eq xs) (is_member-unique_keys xs x ∙ m), r)

  sum_by-le : (f : K → ℕ) (xs ys : List K) → IsDistinct eq xs
      → ((q : K) → is_member eq xs q ≡ true → is_member eq ys q ≡ true) → sum_by f xs ≤ sum_by f ys
  unfolding IsDistinct
  sum_by-le f [] ys d h = omega arith
  sum_by-le f (x ∷ xs) ys d h =
      let found : is_member eq ys x ≡ true = h x (ap (λ b. b || is_member eq xs x) (eq_refl x)) in
      let gone : sum_by f (remove_key (eq x) ys) + f x ≡ sum_by f ys =
      ap (λ b. sum_by f (remove_key (eq x) ys) + cond b (f x) 0) (sym found)
      ∙ sum_by-remove_same f same x ys _ (IsPermutation-refl _) in
      let rest = sum_by-le f xs (remove_key (eq x) ys) d.1
      (λ q m. is_member-remove_key x q ys (apart_from_member x q xs d.0 m) ∙ h q (or_last (eq q x) (is_member eq xs q) m)) in
      omega (arith, sum_by-cons f x xs)
    where
      or_last : (a b : Bool) → b ≡ true → (a || b) ≡ true
      or_last true b e = refl
      or_last false b e = e

  -- The sum over the distinct members is one for all lists with the same members.
  pub sum_by-unique_keys : (f : K → ℕ) (xs ys : List K)
      → ((q : K) → is_member eq xs q ≡ is_member eq ys q)
      → sum_by f (unique_keys eq xs) ≡ sum_by f (unique_keys eq ys)
  sum_by-unique_keys f xs ys h =
      let up = sum_by-le f (unique_keys eq xs) (unique_keys eq ys) (IsDistinct-unique_keys xs)
      (λ q m. is_member-unique_keys ys q ∙ sym (h q) ∙ sym (is_member-unique_keys xs q) ∙ m) in
      let down = sum_by-le f (unique_keys eq ys) (unique_keys eq xs) (IsDistinct-unique_keys ys)
      (λ q m. is_member-unique_keys xs q ∙ h q ∙ sym (is_member-unique_keys ys q) ∙ m) in
      omega arith

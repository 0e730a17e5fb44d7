-- The shortest prefix of a name that begins no other.
use Rattle.std.proofs.Common.{inl, inr, ◌≡◌, ◌≢◌, ◌⊎◌, ℕ, zero, suc, ◌+◌, ◌*◌, ◌/◌, ◌%◌, ◌<◌, ◌≤◌, min, max, Bool, true, false, not, ◌&&◌, ◌||◌, if◌then◌else◌, List, [], ◌∷◌, length, map, take, unwrap_or, find, nat_eq, nat_lt, refl, sym, ap, ap₂, ◌∙◌, arith}
use Rattle.std.specs.Prelude.{◌==◌, All, nat_le}
use Rattle.std.specs.List.{range_with_len}
use Rattle.std.specs.Str.{bytes_eq}
use Rattle.std.proofs.lemmas.Bool.{cases_eq, cases_lt}
use Rattle.std.proofs.lemmas.Bool.Decides.{nat_tests}
use Rattle.std.proofs.lemmas.List.{take_all}
use Rattle.std.proofs.lemmas.List.Elements.{All-head, All-tail}
use Rattle.hex.specs.Hex.{encode_lower, encode_with, lower_digits}
use Rattle.hex.proofs.HexLemmas.{IsDigits, IsDigits-lower_digits}
use Rattle.git_model.specs.ObjectName.{IsObjectName}
use Rattle.git_model.specs.Repository.{Object}
use Rattle.name_index.specs.Index.{most_shared, shared_apart, shared_digits}
use Rattle.tenant_tables.specs.Abbreviation.{begins}
use Rattle.answers.specs.Printed.{begins_no_other, shortest_prefix}
use Rattle.answers.proofs.NameDigits.{both, digit_value, length_of_digits, other_test, same_test}

-- ---- what digits begin

and_false : (b : Bool) → (b && false) ≡ false
and_false true = refl
and_false false = refl

-- at one byte
byte_begun : (b c n s : ℕ) (rest : Bool) → rest ≡ nat_le n s
    → (nat_eq (b / 16) (c / 16) && (nat_eq (b % 16) (c % 16) && rest))
    ≡ nat_le (suc (suc n)) (if b == c then 2 + s else if b / 16 == c / 16 then 1 else 0)
byte_begun b c n s rest is = elim (cases_eq b c) [
  | inl same ↦
      rw (same_test b c same, same_test (b / 16) (c / 16) (ap (λ (x : ℕ). x / 16) same), same_test (b % 16) (c % 16) (ap (λ (x : ℕ). x % 16) same))
      (is ∙ more)
  | inr other ↦ rw (other_test b c other) (apart other (cases_eq (b / 16) (c / 16)))
]
  where
    more : nat_le n s ≡ nat_le (suc (suc n)) (2 + s)
    more = grind (arith, nat_tests)

    few : (t : Bool) → false ≡ nat_le (suc (suc n)) (if t then 1 else 0)
    few true = grind (arith, nat_tests)
    few false = grind (arith, nat_tests)

    apart : b ≢ c → (b / 16 ≡ c / 16) ⊎ (b / 16 ≢ c / 16)
        → (nat_eq (b / 16) (c / 16) && (nat_eq (b % 16) (c % 16) && rest))
        ≡ nat_le (suc (suc n)) (if b / 16 == c / 16 then 1 else 0)
    apart other (inl high) =
        rw (other_test (b % 16) (c % 16) (λ low. other (omega arith))) (and_false _ ∙ few _)
    apart other (inr high) = rw (other_test (b / 16) (c / 16) high) (few false)

one_begun : (b c s : ℕ)
    → (nat_eq (b / 16) (c / 16) && true)
    ≡ nat_le 1 (if b == c then 2 + s else if b / 16 == c / 16 then 1 else 0)
one_begun b c s = elim (cases_eq b c) [
  | inl same ↦
      rw (same_test b c same, same_test (b / 16) (c / 16) (ap (λ (x : ℕ). x / 16) same)) many
  | inr other ↦ rw (other_test b c other) (by (nat_eq (b / 16) (c / 16)))
]
  where
    many : true ≡ nat_le 1 (2 + s)
    many = grind (arith, nat_tests)

    by : (t : Bool) → (t && true) ≡ nat_le 1 (if t then 1 else 0)
    by true = grind (arith, nat_tests)
    by false = grind (arith, nat_tests)

-- the first digits of a name begin another that shares as many
digits_begin : (t : List ℕ) → IsDigits t → (p q : List ℕ) (n : ℕ) → length p ≡ length q
    → n ≤ 2 * length p → All (λ byte. byte < 256) p → All (λ byte. byte < 256) q
    → begins (take n (encode_with t p)) q ≡ nat_le n (shared_digits p q)
unfolding begins encode_with
digits_begin t digits p q zero size le of_p of_q = grind (arith, nat_tests)
digits_begin t digits [] q (suc n) size le of_p of_q = absurd (omega arith)
digits_begin t digits (b ∷ p) [] (suc n) size le of_p of_q = absurd (omega arith)
digits_begin t digits (b ∷ p) (c ∷ q) (suc zero) size le of_p of_q =
    let fits_b : b < 256 = All-head (λ byte. byte < 256) b p of_p in
    let fits_c : c < 256 = All-head (λ byte. byte < 256) c q of_q in
    ap (λ (test : Bool). test && true) (digit_value t digits (b / 16) (c / 16) (omega arith))
    ∙ one_begun b c _
digits_begin t digits (b ∷ p) (c ∷ q) (suc (suc n)) size le of_p of_q =
    let fits_b : b < 256 = All-head (λ byte. byte < 256) b p of_p in
    let fits_c : c < 256 = All-head (λ byte. byte < 256) c q of_q in
    both _ _ _ _ _ _ (digit_value t digits (b / 16) (c / 16) (omega arith))
    (digit_value t digits (b % 16) (c % 16) (omega arith)) refl
    ∙ byte_begun b c n _ _
    (digits_begin t digits p q n (omega arith) (omega arith) (All-tail (λ byte. byte < 256) b p of_p)
    (All-tail (λ byte. byte < 256) c q of_q))

one_apart : (id other : List ℕ) (n : ℕ) → IsObjectName id → IsObjectName other → 1 ≤ n → n ≤ 40
    → (bytes_eq other id || not (begins (take n (encode_lower id)) other))
    ≡ nat_lt (shared_apart id other) n
one_apart id other n is is_other some le =
    let size = is.size in
    let size_too = is_other.size in
    by (bytes_eq other id) (begins (take n (encode_lower id)) other)
    (digits_begin lower_digits IsDigits-lower_digits id other n (omega arith) (omega arith) is.bytes is_other.bytes)
  where
    by : (same begun : Bool) → begun ≡ nat_le n (shared_digits id other)
        → (same || not begun) ≡ nat_lt (if same then 0 else shared_digits id other) n
    by true begun e = grind (arith, nat_tests)
    by false begun e = grind (arith, nat_tests)

both_below : (a b n : ℕ) → (nat_lt a n && nat_lt b n) ≡ nat_lt (max a b) n
both_below a b n = grind (arith, nat_tests)

-- digits begin no other name where they are more than any other shares
pub shared_by_none : (os : List Object) (id : List ℕ) (n : ℕ) → All (λ o. IsObjectName o.id) os
    → IsObjectName id → 1 ≤ n → n ≤ 40
    → begins_no_other os id (take n (encode_lower id))
    ≡ nat_lt (most_shared id (map (λ o. o.id) os)) n
shared_by_none [] id n are is some le = grind (arith, nat_tests)
shared_by_none (o ∷ os) id n are is some le =
    ap₂ (λ (a b : Bool). a && b)
    (one_apart id o.id n is (All-head (λ (x : Object). IsObjectName x.id) o os are) some le)
    (shared_by_none os id n (All-tail (λ (x : Object). IsObjectName x.id) o os are) is some le)
    ∙ both_below (shared_apart id o.id) (most_shared id (map (λ (x : Object). x.id) os)) n

-- ---- the first that passes

-- the value of the first of some numbers that passes
pub first_passing : {X : Type 0} (p : X → Bool) (f : ℕ → X) (none : X) (from len at : ℕ) → from ≤ at
    → at < from + len → ((n : ℕ) → from ≤ n → n < at → p (f n) ≡ false) → p (f at) ≡ true
    → unwrap_or (find p (map f (range_with_len from len))) none ≡ f at
first_passing p f none from zero at low high fails passes = absurd (omega arith)
first_passing {X} p f none from (suc len) at low high fails passes = elim (cases_eq from at) [
  | inl same ↦ here (ap (λ n. p (f n)) same ∙ passes) ∙ ap f same
  | inr other ↦
      there (fails from (omega arith) (omega arith))
      (first_passing p f none (from + 1) len at (omega arith) (omega arith)
      (λ n low below. fails n (omega arith) below) passes)
]
  where
    here : p (f from) ≡ true
        → unwrap_or (find p (map f (range_with_len from (suc len)))) none ≡ f from
    here e = rw e refl

    there : p (f from) ≡ false
        → unwrap_or (find p (map f (range_with_len (from + 1) len))) none ≡ f at
        → unwrap_or (find p (map f (range_with_len from (suc len)))) none ≡ f at
    there e rest = rw e rest

pub none_passing : {X : Type 0} (p : X → Bool) (f : ℕ → X) (none : X) (from len : ℕ)
    → ((n : ℕ) → from ≤ n → n < from + len → p (f n) ≡ false)
    → unwrap_or (find p (map f (range_with_len from len))) none ≡ none
none_passing p f none from zero fails = refl
none_passing p f none from (suc len) fails =
    rw (fails from (omega arith) (omega arith))
    (none_passing p f none (from + 1) len (λ n low high. fails n (omega arith) (omega arith)))

-- numbers up to the last fail, or all but the last; at the last stands what stands for none
pub last_passing : {X : Type 0} (p : X → Bool) (f : ℕ → X) (none : X) (from len : ℕ)
    → ((n : ℕ) → from ≤ n → n < from + len → p (f n) ≡ false) → f (from + len) ≡ none
    → unwrap_or (find p (map f (range_with_len from (len + 1)))) none ≡ none
last_passing {X} p f none from len fails last = by (p (f (from + len))) refl
  where
    by : (b : Bool) → p (f (from + len)) ≡ b
        → unwrap_or (find p (map f (range_with_len from (len + 1)))) none ≡ none
    by true e = first_passing p f none from (len + 1) (from + len) (omega arith) (omega arith) fails e ∙ last
    by false e = none_passing p f none from (len + 1) (λ n low high. elim (cases_eq n (from + len)) [
      | inl same ↦ ap (λ n. p (f n)) same ∙ e
      | inr other ↦ fails n low (omega arith)
    ])

-- ---- the shortest prefix, by the most digits that another shares

pub shortest_by : (os : List Object) (id : List ℕ) (m r : ℕ) → All (λ o. IsObjectName o.id) os
    → IsObjectName id → m ≡ most_shared id (map (λ o. o.id) os) → r ≡ max 4 (min m 39 + 1)
    → take r (encode_lower id) ≡ shortest_prefix os id
unfolding shortest_prefix
shortest_by os id m r are is most size = by (cases_lt r 40)
  where
    told : (n : ℕ) → 4 ≤ n → n ≤ 40
        → begins_no_other os id (take n (encode_lower id)) ≡ nat_lt m n
    told n low high =
        shared_by_none os id n are is (omega arith) high ∙ ap (λ (k : ℕ). nat_lt k n) (sym most)

    fails : (n : ℕ) → 4 ≤ n → n < r → begins_no_other os id (take n (encode_lower id)) ≡ false
    fails n low below =
        let le : n ≤ m = omega arith in
        told n low (omega arith) ∙ grind (arith, nat_tests)

    passes : r < 40 → begins_no_other os id (take r (encode_lower id)) ≡ true
    passes few =
        let lt : m < r = omega arith in
        told r (omega arith) (omega arith) ∙ grind (arith, nat_tests)

    by : (r < 40) ⊎ (40 ≤ r) → take r (encode_lower id) ≡ shortest_prefix os id
    by (inl few) =
        sym (first_passing (begins_no_other os id) (λ n. take n (encode_lower id)) (encode_lower id) 4 37 r
        (omega arith) (omega arith) fails (passes few))
    by (inr many) =
        let last : r ≡ 40 = omega arith in
        let whole : take 40 (encode_lower id) ≡ encode_lower id =
        take_all 40 (encode_lower id) (omega (arith, length_of_digits id is)) in
        ap (λ (n : ℕ). take n (encode_lower id)) last ∙ whole
        ∙ sym (last_passing (begins_no_other os id) (λ n. take n (encode_lower id)) (encode_lower id) 4 36
        (λ n low high. fails n low (omega arith)) whole)

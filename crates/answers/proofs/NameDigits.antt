-- The digits of a name: those that begin it are a prefix of its text.
use Rattle.std.proofs.Common.{inl, inr, ◌≡◌, ◌≢◌, ◌⊎◌, ℕ, zero, suc, ◌/◌, ◌%◌, ◌<◌, Bool, true, false, ◌&&◌, List, [], ◌∷◌, ◌++◌, length, take, slice_index, Option, Some, nat_eq, refl, sym, ap, subst, ◌∙◌, append-nil, arith}
use Rattle.std.specs.Prelude.{All}
use Rattle.std.specs.Bool.{Decides}
use Rattle.std.specs.List.{starts_with}
use Rattle.std.specs.Option.{option_eq}
use Rattle.std.proofs.lemmas.Bool.{cases_eq, cases_lt}
use Rattle.std.proofs.lemmas.Bool.Decides.{nat_tests}
use Rattle.std.proofs.lemmas.List.{length-append, nil_from_length, get_or_past}
use Rattle.std.proofs.lemmas.List.Elements.{All-head, All-tail, All-get_or}
use Rattle.hex.specs.Hex.{IsBytes, decode_of, encode_lower, encode_with, hex_digit_value, lower_digits}
use Rattle.hex.proofs.HexLemmas.{IsDigits, IsDigits-lower_digits, decode_of-encode_lower, length-encode_with}
use Rattle.git_model.specs.Bytes.{BeginsWith}
use Rattle.git_model.specs.ObjectName.{IsObjectName}
use Rattle.git_model.proofs.Texts.{begins_test}
use Rattle.tenant_tables.specs.Abbreviation.{begins}

-- ---- one digit

pub same_test : (x y : ℕ) → x ≡ y → nat_eq x y ≡ true
same_test x y same = grind (arith, nat_tests)

pub other_test : (x y : ℕ) → x ≢ y → nat_eq x y ≡ false
other_test x y other = grind (arith, nat_tests)

-- of a table that reads back, the digit at a place has the value of the place
pub digit_value : (t : List ℕ) → IsDigits t → (k j : ℕ) → k < 16
    → option_eq nat_eq (hex_digit_value (slice_index t k)) (Some j) ≡ nat_eq k j
digit_value t digits k j low =
    ap (λ (value : Option ℕ). option_eq nat_eq value (Some j)) (digits k low)

-- of a table that reads back, a digit has the value of a place where it is the digit at that place
one_digit : (t : List ℕ) → IsDigits t → (k j : ℕ) → k < 16 → j < 16
    → option_eq nat_eq (hex_digit_value (slice_index t k)) (Some j)
    ≡ nat_eq (slice_index t k) (slice_index t j)
one_digit t digits k j low_k low_j = digit_value t digits k j low_k ∙ by (cases_eq k j)
  where
    apart : k ≢ j → slice_index t k ≢ slice_index t j
    apart other same =
        let values : Some k ≡ Some j =
        sym (digits k low_k) ∙ ap hex_digit_value same ∙ digits j low_j in
        other cc

    by : (k ≡ j) ⊎ (k ≢ j) → nat_eq k j ≡ nat_eq (slice_index t k) (slice_index t j)
    by (inl same) =
        same_test k j same ∙ sym (same_test (slice_index t k) (slice_index t j) (ap (slice_index t) same))
    by (inr other) =
        other_test k j other
        ∙ sym (other_test (slice_index t k) (slice_index t j) (apart other))

-- ---- the digits of a name

pub both : (a b c d e f : Bool) → a ≡ b → c ≡ d → e ≡ f → (a && (c && e)) ≡ (b && (d && f))
both a b c d e f h i j = rw (h, i, j) refl

-- the first digits of one text of bytes begin another where they are its prefix
begins_is : (t : List ℕ) → IsDigits t → (p q : List ℕ) (n : ℕ) → All (λ byte. byte < 256) p
    → All (λ byte. byte < 256) q
    → begins (take n (encode_with t p)) q
    ≡ starts_with nat_eq (encode_with t q) (take n (encode_with t p))
unfolding begins encode_with
begins_is t digits p q zero of_p of_q = refl
begins_is t digits [] q (suc n) of_p of_q = refl
begins_is t digits (b ∷ p) [] (suc n) of_p of_q = refl
begins_is t digits (b ∷ p) (c ∷ q) (suc zero) of_p of_q =
    let fits_b : b < 256 = All-head (λ byte. byte < 256) b p of_p in
    let fits_c : c < 256 = All-head (λ byte. byte < 256) c q of_q in
    ap (λ (test : Bool). test && true)
    (one_digit t digits (b / 16) (c / 16) (omega arith) (omega arith))
begins_is t digits (b ∷ p) (c ∷ q) (suc (suc n)) of_p of_q =
    let fits_b : b < 256 = All-head (λ byte. byte < 256) b p of_p in
    let fits_c : c < 256 = All-head (λ byte. byte < 256) c q of_q in
    both _ _ _ _ _ _ (one_digit t digits (b / 16) (c / 16) (omega arith) (omega arith))
    (one_digit t digits (b % 16) (c % 16) (omega arith) (omega arith))
    (begins_is t digits p q n (All-tail (λ byte. byte < 256) b p of_p)
    (All-tail (λ byte. byte < 256) c q of_q))

pub begins_name : (id other : List ℕ) (n : ℕ) → IsObjectName id → IsObjectName other
    → Decides (begins (take n (encode_lower id)) other)
    (BeginsWith (encode_lower other) (take n (encode_lower id)))
begins_name id other n is_id is_other =
    let prefix : List ℕ = take n (encode_lower id) in
    subst (λ (test : Bool). Decides test (BeginsWith (encode_lower other) prefix))
    (sym (begins_is lower_digits IsDigits-lower_digits id other n is_id.bytes is_other.bytes))
    (begins_test (encode_lower other) prefix)

-- ---- all digits

pub length_of_digits : (id : List ℕ) → IsObjectName id → length (encode_lower id) ≡ 40
length_of_digits id is = let size = is.size in omega (arith, length-encode_with lower_digits id)

are_bytes : (id : List ℕ) → IsObjectName id → IsBytes id
are_bytes id is i = elim (cases_lt i (length id)) [
  | inl within ↦ All-get_or (λ byte. byte < 256) id i 0 within is.bytes
  | inr past ↦ subst (λ (byte : ℕ). byte < 256) (sym (get_or_past id i 0 (omega arith))) (omega arith)
]

-- the digits of a name begin no other name
pub whole_name : (id other : List ℕ) → IsObjectName id → IsObjectName other
    → BeginsWith (encode_lower other) (encode_lower id) → other ≡ id
whole_name id other is_id is_other begins =
    let sizes = ap length begins.1 in
    let none : length begins.0 ≡ 0 =
    omega (arith, length-append (encode_lower id) begins.0, sizes, length_of_digits id is_id, length_of_digits other is_other) in
    let same : encode_lower other ≡ encode_lower id =
    begins.1 ∙ ap (λ (rest : List ℕ). encode_lower id ++ rest) (nil_from_length begins.0 none)
    ∙ append-nil (encode_lower id) in
    let back =
    sym (decode_of-encode_lower other (are_bytes other is_other)) ∙ ap decode_of same
    ∙ decode_of-encode_lower id (are_bytes id is_id) in
    cc

-- Flags in words, read and set.
use Rattle.std.proofs.Common.{◌≡◌, ◌≢◌, ℕ, zero, suc, ◌+◌, ◌*◌, ◌/◌, ◌%◌, ◌^◌, ◌<◌, ◌≤◌, ◌==◌, Bool, true, false, List, [], ◌∷◌, length, map, get_or, set, replicate, refl, sym, ap, subst, ◌∙◌, inl, inr, arith, bit_and, bit_or, w64}
use Rattle.std.specs.Int.{bit_at}
use Rattle.std.specs.List.{range_with_len}
use Rattle.std.proofs.lemmas.Bool.{cases_eq}
use Rattle.std.proofs.lemmas.List.{ext_get_or, get_or-map, length-map, length-replicate, length-set}
use Rattle.std.proofs.lemmas.List.FromFn.{get_or-range_with_len, length-range_with_len}
use Rattle.std.proofs.lemmas.Nat.Bits.{bit_at-zero, bit_at_set_other, bit_at_set_same, shr_and_one}
use Rattle.missing_objects.specs.Flags.{flag_in, flags_in}
use Rattle.missing_objects.proofs.Opens.{get-here, get-none, get-other}

pub length_flags : (words : List ℕ) (n : ℕ) → length (flags_in words n) ≡ n
unfolding flags_in
length_flags words n = length-map (range_with_len 0 n) (flag_in words) ∙ length-range_with_len 0 n

pub get-flag : (words : List ℕ) (n place : ℕ) → place < n
    → get_or (flags_in words n) place false ≡ flag_in words place
unfolding flags_in
get-flag words n place lt =
    get_or-map (flag_in words) (range_with_len 0 n) place 0 false (let e = length-range_with_len 0 n in omega arith)
    ∙ ap (flag_in words) (get_or-range_with_len 0 n place 0 lt ∙ omega arith)

word-at : (words : List ℕ) (k word d : ℕ) → k < length words → word ≡ get_or words k word → get_or words k d ≡ word
word-at [] k word d lt e = absurd (omega arith)
word-at (x ∷ xs) zero word d lt e = sym e
word-at (x ∷ xs) (suc k) word d lt e = word-at xs k word d (omega arith) e

word-here : (words : List ℕ) (k word d : ℕ) → k < length words → get_or (set words k word) k d ≡ word
word-here [] k word d lt = absurd (omega arith)
word-here (x ∷ xs) zero word d lt = refl
word-here (x ∷ xs) (suc k) word d lt = word-here xs k word d (omega arith)

word-other : (words : List ℕ) (k j word d : ℕ) → j ≢ k → get_or (set words k word) j d ≡ get_or words j d
word-other [] zero j word d other = refl
word-other [] (suc k) j word d other = refl
word-other (x ∷ xs) zero zero word d other = absurd (other refl)
word-other (x ∷ xs) zero (suc j) word d other = refl
word-other (x ∷ xs) (suc k) zero word d other = refl
word-other (x ∷ xs) (suc k) (suc j) word d other = word-other xs k j word d (λ e. other (ap suc e))

zero-word : (k j : ℕ) → ◌≡◌ {A = ℕ} (get_or (replicate k 0) j 0) 0
zero-word zero j = refl
zero-word (suc k) zero = refl
zero-word (suc k) (suc j) = zero-word k j

pub in-flags : (words : List ℕ) (n place : ℕ) (now : List Bool) → flags_in words n ≡ now → place < length now
    → place < n
in-flags words n place now is lt = let e = ap length is in let l = length_flags words n in omega arith

pub in-words : (words : List ℕ) (n place : ℕ) (now : List Bool) → flags_in words n ≡ now → place < length now
    → n ≤ 64 * length words → place / 64 < length words
in-words words n place now is lt enough = let less = in-flags words n place now is lt in omega arith

-- ---- no flags

off : (words : List ℕ) (k : ℕ) → words ≡ replicate k 0 → (p : ℕ) → flag_in words p ≡ false
unfolding flag_in
off words k none p =
    let zero_is : get_or words (p / 64) 0 ≡ 0 = ap (λ (ws : List ℕ). get_or ws (p / 64) 0) none ∙ zero-word k (p / 64) in
    ap (λ (b : ℕ). b == 1) (ap (λ (w : ℕ). bit_at w (p % 64)) zero_is ∙ bit_at-zero (p % 64))

pub no-flags : (words : List ℕ) (k n : ℕ) → words ≡ replicate k 0 → flags_in words n ≡ replicate n false
no-flags words k n none =
    ext_get_or false (flags_in words n) (replicate n false) (length_flags words n ∙ sym (length-replicate n false))
    (λ p lt.
    let within : p < n = let e = length_flags words n in omega arith in
    get-flag words n p within ∙ off words k none p ∙ sym (get-none n p))

-- ---- one flag

in-word : (words : List ℕ) (place word : ℕ) → place / 64 < length words
    → word ≡ get_or words (place / 64) word → (bit_at word (place % 64) == 1) ≡ flag_in words place
unfolding flag_in
in-word words place word there is =
    ap (λ (w : ℕ). bit_at w (place % 64) == 1) (sym (word-at words (place / 64) word 0 there is))

pub flag-read : (words : List ℕ) (n place word : ℕ) → place < n → place / 64 < length words
    → word ≡ get_or words (place / 64) word
    → (bit_and (word / 2 ^ (place % 64)) 1 == 1) ≡ get_or (flags_in words n) place false
flag-read words n place word lt there is =
    ap (λ (b : ℕ). b == 1) (shr_and_one word (place % 64)) ∙ in-word words place word there is
    ∙ sym (get-flag words n place lt)

module _ (words : List ℕ) (n place word : ℕ) (lt : place < n) (there : place / 64 < length words)
    (is : word ≡ get_or words (place / 64) word) where
  abbrev with : ℕ
  with = bit_or word (1 * 2 ^ (place % 64) % 2 ^ 64)

  same-flag : flag_in (set words (place / 64) with) place ≡ true
  unfolding flag_in
  same-flag =
      ap (λ (w : ℕ). bit_at w (place % 64) == 1) (word-here words (place / 64) with 0 there)
      ∙ ap (λ (b : ℕ). b == 1) (bit_at_set_same w64 word (place % 64) (omega arith))

  other-flag : (p : ℕ) → p ≢ place → flag_in (set words (place / 64) with) p ≡ flag_in words p
  unfolding flag_in
  other-flag p other = elim (cases_eq (p / 64) (place / 64)) [
    | inl same ↦
        let at : get_or (set words (place / 64) with) (p / 64) 0 ≡ with =
        ap (λ (k : ℕ). get_or (set words (place / 64) with) k 0) same ∙ word-here words (place / 64) with 0 there in
        let was : get_or words (p / 64) 0 ≡ word =
        ap (λ (k : ℕ). get_or words k 0) same ∙ word-at words (place / 64) word 0 there is in
        ap (λ (w : ℕ). bit_at w (p % 64) == 1) at
        ∙ ap (λ (b : ℕ). b == 1) (bit_at_set_other w64 word (place % 64) (omega arith) (p % 64) (λ e. other (omega arith)))
        ∙ ap (λ (w : ℕ). bit_at w (p % 64) == 1) (sym was)
    | inr apart ↦
        ap (λ (w : ℕ). bit_at w (p % 64) == 1) (word-other words (place / 64) (p / 64) with 0 apart)
  ]

  pub flag-set : flags_in (set words (place / 64) with) n ≡ set (flags_in words n) place true
  flag-set =
      ext_get_or false (flags_in (set words (place / 64) with) n) (set (flags_in words n) place true)
      (length_flags (set words (place / 64) with) n
      ∙ sym (length-set (flags_in words n) place true ∙ length_flags words n))
      (λ p less.
      let within : p < n = let e = length_flags (set words (place / 64) with) n in omega arith in
      get-flag (set words (place / 64) with) n p within ∙ at p within)
    where
      at : (p : ℕ) → p < n → flag_in (set words (place / 64) with) p
          ≡ get_or (set (flags_in words n) place true) p false
      at p within = elim (cases_eq p place) [
        | inl here ↦
            ap (flag_in (set words (place / 64) with)) here ∙ same-flag
            ∙ sym (ap (λ (k : ℕ). get_or (set (flags_in words n) place true) k false) here
            ∙ get-here (flags_in words n) place (let e = length_flags words n in omega arith))
        | inr other ↦
            other-flag p other ∙ sym (get-flag words n p within)
            ∙ sym (get-other (flags_in words n) place p other)
      ]

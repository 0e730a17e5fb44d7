-- A text parted at the first byte of a kind.
use Rattle.std.proofs.Common.{◌≡◌, ◌≢◌, ℕ, ◌+◌, ◌<◌, Bool, not, List, [], ◌∷◌, ◌++◌, length, take, drop, get_or, refl, sym, ap, ◌∙◌, All, Option, Some, None, true, false, position, arith, ◌==◌, length-append}
use Rattle.std.specs.List.{position_or_len}
use Rattle.std.specs.Option.{option_map}
use Rattle.std.proofs.lemmas.Bool.{eqb-true, ne_eqb, eq-eqb, lt-ltb}
use Rattle.std.proofs.lemmas.List.{take-append-drop, drop_more, get_or-take, append_assoc, length-take, take_at, drop_at, length_push}
use Rattle.std.proofs.lemmas.List.Elements.{All-from_get_or, All-head, All-tail}
use Rattle.std.proofs.lemmas.List.Quantifiers.{position-Some}
use Rattle.std.proofs.lemmas.List.Sums.{prefix_len_is}
use Rattle.std.proofs.lemmas.Grind.{common_steps}
use Rattle.memchr.specs.Find.{IsFirstByte, is_byte}
use Rattle.git_objects.specs.Fronts.{IsFront}

-- ---- what the search for a byte finds is its position

goes_on : (b : Bool) → (b ≡ true → ⊥) → not b ≡ true
goes_on true h = absurd (h refl)
goes_on false h = refl

abbrev first_at : ℕ → List ℕ → ℕ
first_at sought xs = position_or_len (λ byte. byte == sought) xs

pub found_is_position : (sought : ℕ) (xs : List ℕ) (found : Option ℕ)
    → IsFirstByte (is_byte sought) xs found → found ≡ position (λ byte. byte == sought) xs
found_is_position sought xs None h =
    let whole : first_at sought xs ≡ length xs =
    prefix_len_is (λ b. not (b == sought)) xs (length xs) 0 (omega arith)
    (λ k below. goes_on (get_or xs k 0 == sought) (h k (omega arith) below))
    (λ below. absurd (omega arith)) in
    grind (arith, common_steps)
found_is_position sought xs (Some at) h =
    let here : first_at sought xs ≡ at =
    prefix_len_is (λ b. not (b == sought)) xs at 0 (omega (arith, h.0.high))
    (λ k below. goes_on (get_or xs k 0 == sought) (h.0.before k (omega arith) below))
    (λ below. ap not h.1) in
    let within : at < length xs = h.0.high in
    grind (arith, common_steps)

-- ---- the parts

-- what stands before the place, the byte there, and what stands after it
parts_at : (end : ℕ) (xs : List ℕ) (i : ℕ) → position (λ byte. byte == end) xs ≡ Some i
    → xs ≡ (take i xs ++ end ∷ []) ++ drop (i + 1) xs
parts_at end xs i h =
    let found = position-Some (λ byte. byte == end) xs i 0 h in
    let within : i < length xs = found.0 in
    let is : get_or xs i 0 ≡ end = eqb-true (get_or xs i 0) end found.1 in
    sym (take-append-drop i xs)
    ∙ ap (λ rest. take i xs ++ rest) (drop_more xs i 0 within ∙ ap (λ b. b ∷ drop (i + 1) xs) is)
    ∙ sym (append_assoc (take i xs) (end ∷ []) (drop (i + 1) xs))

none_before : (end : ℕ) (xs : List ℕ) (i : ℕ) → position (λ byte. byte == end) xs ≡ Some i
    → All (λ byte. byte ≢ end) (take i xs)
none_before end xs i h =
    let found = position-Some (λ byte. byte == end) xs i 0 h in
    All-from_get_or (λ byte. byte ≢ end) (take i xs) 0 (λ k lt e.
    let below : k < i = omega (arith, length-take i xs) in
    let not_here : (get_or xs k 0 == end) ≡ false = found.2 k below in
    let here : (get_or xs k 0 == end) ≡ true = eq-eqb (get_or xs k 0) end (sym (get_or-take i xs k 0 below) ∙ e) in
    cc)

place_after : (end : ℕ) (part rest : List ℕ) → All (λ byte. byte ≢ end) part
    → position_or_len (λ byte. byte == end) ((part ++ end ∷ []) ++ rest) ≡ length part
place_after end [] rest h = rw (eq-eqb end end refl) refl
place_after end (b ∷ bs) rest h =
    let ne : (b == end) ≡ false = ne_eqb b end (All-head (λ byte. byte ≢ end) b bs h) in
    let more = place_after end bs rest (All-tail (λ byte. byte ≢ end) b bs h) in
    rw (ne, more) (omega arith)

position_after : (end : ℕ) (part rest : List ℕ) → All (λ byte. byte ≢ end) part
    → position (λ byte. byte == end) ((part ++ end ∷ []) ++ rest) ≡ Some (length part)
position_after end part rest h =
    let within =
    lt-ltb (length part) (length ((part ++ end ∷ []) ++ rest))
    (omega (arith, length-append (part ++ end ∷ []) rest, length-append part (end ∷ []))) in
    rw (place_after end part rest h, within) refl

-- a text parted there
abbrev pub parted_at : List ℕ → ℕ → List ℕ × List ℕ
parted_at bytes i = (take i bytes, drop (i + 1) bytes)

pub split_front : (end : ℕ) (bytes : List ℕ) (at : Option ℕ)
    → at ≡ position (λ byte. byte == end) bytes
    → IsFront (All (λ byte. byte ≢ end)) (λ part. part ++ end ∷ []) bytes (option_map (parted_at bytes) at)
split_front end bytes None h = record { found = tt; only = λ part rest none e. absurd (let here = position_after end part rest none in let there : position (λ byte. byte == end) ((part ++ end ∷ []) ++ rest) ≡ None = rw (← e) (sym h) in cc) }
split_front end bytes (Some i) h = record {
  found = (none_before end bytes i (sym h), parts_at end bytes i (sym h));
  only = λ part rest none e.
      let there : ◌≡◌ {A = Option ℕ} (Some i) (Some (length part)) =
      h ∙ ap (position (λ byte. byte == end)) e ∙ position_after end part rest none in
      let same : i ≡ length part = cc in
      let before : take i bytes ≡ part =
      ap (take i) (e ∙ append_assoc part (end ∷ []) rest)
      ∙ take_at part ((end ∷ []) ++ rest) i (sym same) in
      let long : length (part ++ end ∷ []) ≡ i + 1 = omega (arith, length_push part end) in
      let remaining : drop (i + 1) bytes ≡ rest =
      ap (drop (i + 1)) e ∙ drop_at (part ++ end ∷ []) rest (i + 1) long in
      rw (before, remaining) refl;
}

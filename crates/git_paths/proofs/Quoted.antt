-- What stands between quotes is read as the bytes that it means, and nothing else is read.
use Rattle.std.proofs.Common.{◌≡◌, ◌≢◌, ℕ, zero, suc, length, ◌<◌, true, ◌&&◌, eqb, ltb, List, [], ◌∷◌, ◌++◌, Option, Some, None, refl, sym, ap, ◌∙◌, subst, append_assoc, arith}
use Rattle.std.specs.Prelude.{find}
use Rattle.std.specs.List.{AllByRecursion}
use Rattle.std.specs.Cmp.{first_so, second_so}
use Rattle.std.proofs.lemmas.Bool.{eqb-true, eqb-false, ne_eqb, leb-true, ltb-true, le-leb, lt-ltb}
use Rattle.git_paths.specs.Quoting.{letters, byte_of_letter, octal_value, IsOctal, Quotes, nothing, itself, letter, octal}
use Rattle.git_paths.specs.Reading.{before, by_letter, is_octal, are_octal, unquoted, escaped, octals}
use Rattle.git_paths.proofs.Cases.{by_cases, parts, parts_are}

-- ---- an octal digit is no letter

none_found : (c : ℕ) (es : List (ℕ × ℕ)) → AllByRecursion (λ e. e.0 ≢ c) es
    → find (λ e. eqb e.0 c) es ≡ None
none_found c [] h = refl
none_found c (e ∷ es) h = rw (ne_eqb e.0 c h.0) (none_found c es h.1)

pub digit_no_letter : (x : ℕ) → IsOctal x → byte_of_letter x ≡ None
unfolding byte_of_letter
digit_no_letter x h =
    let low = h.from_zero in
    let high = h.to_seven in
    rw (none_found x letters ((λ e. omega arith), ((λ e. omega arith), ((λ e. omega arith), ((λ e. omega arith), ((λ e. omega arith), ((λ e. omega arith), ((λ e. omega arith), ((λ e. omega arith), ((λ e. omega arith), tt)))))))))) refl

test-from_IsOctal : (x : ℕ) → IsOctal x → is_octal x ≡ true
test-from_IsOctal x h = rw (le-leb 48 x h.from_zero, lt-ltb x 56 h.to_seven) refl

IsOctal-from_test : (x : ℕ) → is_octal x ≡ true → IsOctal x
IsOctal-from_test x h = record { from_zero = leb-true 48 x (first_so _ _ h); to_seven = ltb-true x 56 (second_so _ _ h) }

-- ---- what has a meaning is read

pub unquoted-Quotes : {inside bytes : List ℕ} (rest : List ℕ) → Quotes inside bytes
    → unquoted (inside ++ 34 ∷ rest) ≡ Some (bytes, rest)
unfolding unquoted
unquoted-Quotes rest nothing = refl
unquoted-Quotes rest (itself b inside bytes no_quote no_backslash q) =
    rw (ne_eqb b 34 no_quote, ne_eqb b 92 no_backslash, unquoted-Quotes rest q) refl
unquoted-Quotes rest (letter c b inside bytes is q) = rw (is, unquoted-Quotes rest q) refl
unquoted-Quotes rest (octal x y z inside bytes dx dy dz fits q) =
    rw (digit_no_letter x dx, test-from_IsOctal x dx, test-from_IsOctal y dy, test-from_IsOctal z dz, lt-ltb (octal_value x y z) 256 fits, unquoted-Quotes rest q) refl

-- ---- what is read has a meaning

-- how a text was read: as what stands before a closing quote
abbrev pub Read : List ℕ → List ℕ → List ℕ → Type 0
Read text bytes rest = (inside : List ℕ) × (text ≡ inside ++ 34 ∷ rest) × Quotes inside bytes

-- what was read after one more byte
before_some : (b : ℕ) (o : Option (List ℕ × List ℕ)) (bytes rest : List ℕ)
    → before b o ≡ Some (bytes, rest)
    → (others : List ℕ) × (o ≡ Some (others, rest)) × (bytes ≡ b ∷ others)
before_some b None bytes rest h = absurd cc
before_some b (Some (others, end)) bytes rest h =
    let both = parts_are (b ∷ others) end bytes rest h in
    (others, ap (parts others) both.1, sym both.0)

-- a step of reading: what stands first, and what it means, before what was read after it
step : (first : List ℕ) (b : ℕ) (text bytes others rest : List ℕ) → bytes ≡ b ∷ others
    → ((inside : List ℕ) → Quotes inside others → Quotes (first ++ inside) (b ∷ others))
    → Read text others rest → Read (first ++ text) bytes rest
step first b text bytes others rest is means r =
    (first ++ r.0, ap (λ (t : List ℕ). first ++ t) r.1 ∙ sym (append_assoc first r.0 (34 ∷ rest)), subst (λ (bs : List ℕ). Quotes (first ++ r.0) bs) (sym is) (means r.0 r.2))

closed : (text bytes rest : List ℕ) → parts [] text ≡ parts bytes rest → Read (34 ∷ text) bytes rest
closed text bytes rest h =
    let both = parts_are [] text bytes rest h in
    ([], ap (λ (t : List ℕ). 34 ∷ t) both.1, subst (λ (bs : List ℕ). Quotes [] bs) both.0 nothing)

-- what is read of each text of less than n bytes has a meaning
abbrev Reads : ℕ → Type 0
Reads n =
    (text bytes rest : List ℕ) → length text < n → unquoted text ≡ Some (bytes, rest) → Read text bytes rest

octals_read : (n : ℕ) → Reads n → (x : ℕ) (text bytes rest : List ℕ) → length text < n
    → octals x text ≡ Some (bytes, rest) → Read (92 ∷ x ∷ text) bytes rest
unfolding octals
octals_read n shorter x [] bytes rest lt h = absurd cc
octals_read n shorter x (y ∷ []) bytes rest lt h = absurd cc
octals_read n shorter x (y ∷ z ∷ text) bytes rest lt h =
    by_cases (are_octal x y z)
    (λ yea.
    let m = before_some (octal_value x y z) (unquoted text) bytes rest (rw yea at h) in
    let xyz = first_so (is_octal x && is_octal y && is_octal z) (ltb (octal_value x y z) 256) yea in
    let xy = first_so (is_octal x && is_octal y) (is_octal z) xyz in
    let dx = IsOctal-from_test x (first_so (is_octal x) (is_octal y) xy) in
    let dy = IsOctal-from_test y (second_so (is_octal x) (is_octal y) xy) in
    let dz = IsOctal-from_test z (second_so (is_octal x && is_octal y) (is_octal z) xyz) in
    let fits =
    ltb-true (octal_value x y z) 256
    (second_so (is_octal x && is_octal y && is_octal z) (ltb (octal_value x y z) 256) yea) in
    step (92 ∷ x ∷ y ∷ z ∷ []) (octal_value x y z) text bytes m.0 rest m.2 (λ inside q. octal x y z inside m.0 dx dy dz fits q) (shorter text m.0 rest (omega arith) m.1))
    (λ nay. absurd (let none : None ≡ Some (bytes, rest) = rw nay at h in cc))

letter_read : (n : ℕ) → Reads n → (c : ℕ) (text bytes rest : List ℕ) → length text < n
    → (o : Option ℕ) → byte_of_letter c ≡ o
    → by_letter o (unquoted text) (octals c text) ≡ Some (bytes, rest)
    → Read (92 ∷ c ∷ text) bytes rest
letter_read n shorter c text bytes rest lt None is h = octals_read n shorter c text bytes rest lt h
letter_read n shorter c text bytes rest lt (Some b) is h =
    let m = before_some b (unquoted text) bytes rest h in
    step (92 ∷ c ∷ []) b text bytes m.0 rest m.2 (λ inside q. letter c b inside m.0 is q)
    (shorter text m.0 rest lt m.1)

escaped_read : (n : ℕ) → Reads n → (text bytes rest : List ℕ) → length text < n
    → escaped text ≡ Some (bytes, rest) → Read (92 ∷ text) bytes rest
unfolding escaped
escaped_read n shorter [] bytes rest lt h = absurd cc
escaped_read n shorter (c ∷ text) bytes rest lt h =
    letter_read n shorter c text bytes rest (omega arith) (byte_of_letter c) refl h

unquoted_read : (n : ℕ) → Reads n
unfolding unquoted
unquoted_read zero text bytes rest lt h = absurd (omega arith)
unquoted_read (suc n) [] bytes rest lt h = absurd cc
unquoted_read (suc n) (b ∷ text) bytes rest lt h =
    by_cases (eqb b 34)
    (λ yea. rw (eqb-true b 34 yea) (closed text bytes rest (rw yea at h)))
    (λ no_quote. by_cases (eqb b 92)
    (λ yea. rw (eqb-true b 92 yea) (escaped_read n (unquoted_read n) text bytes rest (omega arith) (rw (no_quote, yea) at h)))
    (λ no_backslash.
    let m = before_some b (unquoted text) bytes rest (rw (no_quote, no_backslash) at h) in
    step (b ∷ []) b text bytes m.0 rest m.2 (λ inside q. itself b inside m.0 (eqb-false b 34 no_quote) (eqb-false b 92 no_backslash) q) (unquoted_read n text m.0 rest (omega arith) m.1)))

pub Read-from_unquoted : (text bytes rest : List ℕ) → unquoted text ≡ Some (bytes, rest)
    → Read text bytes rest
Read-from_unquoted text bytes rest h =
    unquoted_read (suc (length text)) text bytes rest (omega arith) h

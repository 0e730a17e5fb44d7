-- What is printed is read again.
use Rattle.std.proofs.Common.{◌≡◌, ◌≢◌, ◌⊎◌, inl, inr, ℕ, ◌+◌, ◌/◌, ◌%◌, ◌<◌, Bool, true, false, ◌||◌, eqb, ltb, leb, List, [], ◌∷◌, ◌++◌, Option, Some, None, Ok, refl, sym, ap, ◌∙◌, subst, arith}
use Rattle.std.specs.Prelude.{◌&&◌, find}
use Rattle.std.specs.List.{list_any, flat_map, AllByRecursion}
use Rattle.std.specs.Option.{option_map}
use Rattle.std.proofs.Math.Nat.{div-div-eq-div-mul}
use Rattle.std.proofs.lemmas.Bool.{eqb-true, eqb-false, ltb-true}
use Rattle.git_paths.specs.declared.place.Place.TheVariants.{Last}
use Rattle.git_paths.specs.Paths.{IsPath, IsWithinLimits, joined}
use Rattle.git_paths.specs.Quoting.{letters, byte_of_letter, letter_of_byte, is_special, escape_by, escape, quoted, octal_value, IsOctal, Quotes, nothing, itself, letter, octal}
use Rattle.git_paths.specs.Written.{IsUnquoted, Writes, unquoted_last, quoted_last}
use Rattle.git_paths.specs.Reading.{path_at}
use Rattle.git_paths.proofs.Cases.{by_cases, some_is}
use Rattle.git_paths.proofs.Found.{path_at-Writes}

-- bytes of which none is special are printed as they are
pub quoted-plain : (bytes : List ℕ) → list_any is_special bytes ≡ false → quoted bytes ≡ bytes
unfolding quoted
quoted-plain bytes none = rw none refl

-- ---- a letter that is printed means its byte

found_at : (b : ℕ) (es : List (ℕ × ℕ)) → AllByRecursion (λ e. byte_of_letter e.0 ≡ Some e.1) es
    → (e : ℕ × ℕ) → find (λ e. eqb e.1 b) es ≡ Some e → (e.1 ≡ b) × (byte_of_letter e.0 ≡ Some e.1)
found_at b [] h e is = absurd cc
found_at b (x ∷ es) h e is =
    by_cases (eqb x.1 b)
    (λ yea. let same = some_is x e (rw yea at is) in (ap (λ (p : ℕ × ℕ). p.1) (sym same) ∙ eqb-true x.1 b yea, subst (λ (p : ℕ × ℕ). byte_of_letter p.0 ≡ Some p.1) same h.0))
    (λ nay. found_at b es h.1 e (rw nay at is))

each_letter : AllByRecursion (λ e. byte_of_letter e.0 ≡ Some e.1) letters
unfolding byte_of_letter
each_letter = (refl, (refl, (refl, (refl, (refl, (refl, (refl, (refl, (refl, tt)))))))))

letter_found : (b l : ℕ) (o : Option (ℕ × ℕ)) → find (λ e. eqb e.1 b) letters ≡ o
    → option_map (λ e. e.0) o ≡ Some l → byte_of_letter l ≡ Some b
letter_found b l None is h = absurd cc
letter_found b l (Some e) is h =
    let m = found_at b letters each_letter e is in
    let same = some_is e.0 l h in
    ap byte_of_letter (sym same) ∙ m.1 ∙ ap (λ (n : ℕ). Some n) m.0

byte_of_letter-letter_of_byte : (b l : ℕ) → letter_of_byte b ≡ Some l → byte_of_letter l ≡ Some b
unfolding letter_of_byte
byte_of_letter-letter_of_byte b l h = letter_found b l (find (λ e. eqb e.1 b) letters) refl h

-- ---- each printed byte means itself

or_false : (a b : Bool) → (a || b) ≡ false → (a ≡ false) × (b ≡ false)
or_false true b h = absurd cc
or_false false b h = (refl, h)

plain_byte : (b : ℕ) → is_special b ≡ false → (b ≢ 34) × (b ≢ 92)
plain_byte b h =
    let low = (or_false (eqb b 34 || eqb b 92 || ltb b 32) (leb 127 b && ltb b 256) h).0 in
    let both = (or_false (eqb b 34 || eqb b 92) (ltb b 32) low).0 in
    let each = or_false (eqb b 34) (eqb b 92) both in
    (eqb-false b 34 each.0, eqb-false b 92 each.1)

or_true : (a b : Bool) → (a || b) ≡ true → (a ≡ true) ⊎ (b ≡ true)
or_true true b h = inl refl
or_true false b h = inr h

second_true : (a b : Bool) → (a && b) ≡ true → b ≡ true
second_true true b h = h
second_true false b h = absurd cc

-- what is special is a byte
special_byte : (b : ℕ) → is_special b ≡ true → b < 256
special_byte b h = elim (or_true (eqb b 34 || eqb b 92 || ltb b 32) (leb 127 b && ltb b 256) h) [
  | inl low ↦ elim (or_true (eqb b 34 || eqb b 92) (ltb b 32) low) [
    | inl mark ↦ elim (or_true (eqb b 34) (eqb b 92) mark) [
      | inl quote ↦ (let is = eqb-true b 34 quote in omega (arith, is))
      | inr backslash ↦ (let is = eqb-true b 92 backslash in omega (arith, is))
    ]
    | inr control ↦ (let lt = ltb-true b 32 control in omega (arith, lt))
  ]
  | inr high ↦ ltb-true b 256 (second_true (leb 127 b) (ltb b 256) high)
]

digits_of : (b : ℕ) → b < 256
    → (octal_value (48 + b / 64) (48 + b / 8 % 8) (48 + b % 8) ≡ b) × (b / 64 < 8)
digits_of b lt =
    let eighths : b / 8 / 8 ≡ b / 64 = div-div-eq-div-mul b 8 8 in
    (omega (arith, eighths), omega arith)

octal_means : (b : ℕ) (inside bytes : List ℕ) → b < 256 → Quotes inside bytes
    → Quotes (92 ∷ (48 + b / 64) ∷ (48 + b / 8 % 8) ∷ (48 + b % 8) ∷ inside) (b ∷ bytes)
octal_means b inside bytes lt q =
    let d = digits_of b lt in
    let x : IsOctal (48 + b / 64) = record { from_zero = omega arith; to_seven = omega (arith, d.1) } in
    let y : IsOctal (48 + b / 8 % 8) = record { from_zero = omega arith; to_seven = omega arith } in
    let z : IsOctal (48 + b % 8) = record { from_zero = omega arith; to_seven = omega arith } in
    subst
    (λ (n : ℕ). Quotes (92 ∷ (48 + b / 64) ∷ (48 + b / 8 % 8) ∷ (48 + b % 8) ∷ inside) (n ∷ bytes)) d.0
    (octal (48 + b / 64) (48 + b / 8 % 8) (48 + b % 8) inside bytes x y z (omega (arith, d.0)) q)

escape_by_means : (b : ℕ) (inside bytes : List ℕ) → Quotes inside bytes → (o : Option ℕ)
    → letter_of_byte b ≡ o → Quotes (escape_by b o ++ inside) (b ∷ bytes)
escape_by_means b inside bytes q (Some l) is =
    letter l b inside bytes (byte_of_letter-letter_of_byte b l is) q
escape_by_means b inside bytes q None is =
    by_cases (is_special b)
    (λ yea. rw yea (octal_means b inside bytes (special_byte b yea) q))
    (λ nay. let p = plain_byte b nay in rw nay (itself b inside bytes p.0 p.1 q))

escape_means : (b : ℕ) (inside bytes : List ℕ) → Quotes inside bytes
    → Quotes (escape b ++ inside) (b ∷ bytes)
unfolding escape
escape_means b inside bytes q = escape_by_means b inside bytes q (letter_of_byte b) refl

Quotes-printed : (bytes : List ℕ) → Quotes (flat_map escape bytes) bytes
Quotes-printed [] = nothing
Quotes-printed (b ∷ bytes) =
    escape_means b (flat_map escape bytes) bytes (Quotes-printed bytes)

-- ---- the printed bytes are written as the last path

first_plain : (bytes : List ℕ) → list_any is_special bytes ≡ false → IsUnquoted bytes
first_plain [] h = tt
first_plain (b ∷ bytes) h =
    (plain_byte b (or_false (is_special b) (list_any is_special bytes) h).0).0

pub Writes-quoted : (bytes : List ℕ) → Writes Last (quoted bytes) bytes []
unfolding quoted
Writes-quoted bytes =
    by_cases (list_any is_special bytes)
    (λ yea. rw yea (quoted_last (flat_map escape bytes) bytes (Quotes-printed bytes)))
    (λ nay. rw nay (unquoted_last bytes (first_plain bytes nay)))

-- a path that is printed is read as the same path
pub printed_is_read : (path : List (List ℕ)) → IsPath path → IsWithinLimits path
    → path_at Last (quoted (joined path)) ≡ Ok (path, [])
printed_is_read path is limits =
    path_at-Writes Last (quoted (joined path)) path [] is limits (Writes-quoted (joined path))

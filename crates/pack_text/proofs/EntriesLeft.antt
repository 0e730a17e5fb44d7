-- A sink takes entries one after another, and their header before them.
use Rattle.std.proofs.Common.{◌≡◌, ◌≤◌, ◌<◌, ◌+◌, ◌/◌, ◌%◌, ℕ, zero, suc, List, [], ◌∷◌, ◌++◌, length, drop, Option, None, Some, slice_get, arith, refl, sym, ap, ◌∙◌}
use Rattle.std.specs.Int.{w32, to_be_bytes}
use Rattle.std.specs.List.{flat_map}
use Rattle.std.specs.Option.{option_map}
use Rattle.std.proofs.lemmas.List.{drop_all}
use Rattle.std.proofs.lemmas.Option.{none-some, slice_get_within}
use Rattle.std.proofs.lemmas.List.Concat.{flat_map-cons}

-- A count in four bytes is cut to them.
pub count_cut : (n m : ℕ) → m ≡ n % 4294967296 → to_be_bytes w32 m ≡ to_be_bytes w32 n
count_cut n m is =
    let a : m / 16777216 % 256 ≡ n / 16777216 % 256 = omega (arith, is) in
    let b : m / 65536 % 256 ≡ n / 65536 % 256 = omega (arith, is) in
    let c : m / 256 % 256 ≡ n / 256 % 256 = omega (arith, is) in
    let d : m % 256 ≡ n % 256 = omega (arith, is) in
    rw (a, b, c, d) refl

got_next : {X : Type 0} (xs : List X) (i : ℕ) (x : X) → slice_get xs i ≡ Some x
    → drop i xs ≡ x ∷ drop (suc i) xs
got_next [] i x is = let within = slice_get_within [] i x is in absurd (omega (arith, within))
got_next (y ∷ ys) zero x is = ap (λ z. z ∷ ys) (search is)
got_next (y ∷ ys) (suc i) x is = got_next ys i x is

-- The texts from a place on: that of the element there, and those after it.
pub texts_from : {X : Type 0} (text : X → List ℕ) (xs : List X) (i : ℕ) (x : X)
    → Some x ≡ slice_get xs i
    → flat_map text (drop i xs) ≡ text x ++ flat_map text (drop (i + 1) xs)
texts_from text xs i x is =
    let e : suc i ≡ i + 1 = omega arith in
    ap (flat_map text) (got_next xs i x (sym is)) ∙ flat_map-cons text x (drop (suc i) xs)
    ∙ ap (λ (n : ℕ). text x ++ flat_map text (drop n xs)) e

pub texts_end : {X : Type 0} (text : X → List ℕ) (xs : List X) (i : ℕ) → length xs ≤ i
    → flat_map text (drop i xs) ≡ []
texts_end text xs i all = ap (flat_map text) (drop_all i xs all)

pub nothing_within : {X Y : Type 0} (f : Y → X) (r : Option Y) (xs : List X) (i : ℕ)
    → option_map f r ≡ slice_get xs i → r ≡ None → i < length xs → ⊥
nothing_within f r [] i at is less = omega (arith, less)
nothing_within f r (x ∷ xs) zero at is less = none-some x (ap (option_map f) (sym is) ∙ at)
nothing_within f r (x ∷ xs) (suc i) at is less =
    nothing_within f r xs i at is (omega (arith, less))

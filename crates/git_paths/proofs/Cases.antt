-- Cases on a test, and the parts of what was read.
use Rattle.std.proofs.Common.{◌≡◌, ℕ, List, Bool, true, false, Option, None, Some, MatchOption, IsSomeAnd, refl, ap}
use Rattle.std.specs.Option.{option_map}

pub by_cases : {P : Type 0} (b : Bool) → (b ≡ true → P) → (b ≡ false → P) → P
by_cases true yea nay = yea refl
by_cases false yea nay = nay refl

pub some_is : {A : Type 0} (x y : A) → Some x ≡ Some y → x ≡ y
some_is x y h = cc

-- bytes that were read, and the rest after them
abbrev pub parts : List ℕ → List ℕ → Option (List ℕ × List ℕ)
parts bytes rest = Some (bytes, rest)

pub parts_are : (bytes rest others end : List ℕ) → parts bytes rest ≡ parts others end
    → (bytes ≡ others) × (rest ≡ end)
parts_are bytes rest others end h =
    let both : ◌≡◌ {A = List ℕ × List ℕ} (bytes, rest) (others, end) = some_is _ _ h in
    (ap (λ (p : List ℕ × List ℕ). p.0) both, ap (λ (p : List ℕ × List ℕ). p.1) both)

-- what `map` answered
pub mapped : {A B C : Type 0} {P : A → C → Type 0} (v : A → B) (f : B → C) (o : Option A) (r : Option C)
    → MatchOption o (r ≡ None) (λ x. IsSomeAnd r (P x)) → ((x : A) (y : C) → P x y → y ≡ f (v x))
    → r ≡ option_map f (option_map v o)
mapped v f None r h is = h
mapped v f (Some x) (Some y) h is = ap Some (is x y h)
mapped v f (Some x) None h is = absurd h

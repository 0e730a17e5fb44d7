-- The longest front of a list whose elements pass a test.
use Rattle.std.proofs.Common.{◌≡◌, ℕ, List, [], ◌∷◌, ◌++◌, Bool, true, false, ◌+◌, length, take, drop, suc, inl, inr, refl, ap, ◌∙◌, arith}
use Rattle.std.specs.List.{list_all, prefix_len}
use Rattle.std.proofs.Math.Seq.{take-append_seam, drop-append_seam}
use Rattle.std.proofs.lemmas.Bool.{and_parts, and_from, cases_Bool, cond-true, cond-false}

-- the front ends before the first element that fails
prefix_len_stop : {X : Type 0} (p : X → Bool) (xs : List X) (y : X) (ys : List X)
    → list_all p xs ≡ true → p y ≡ false → prefix_len p (xs ++ y ∷ ys) ≡ length xs
prefix_len_stop p [] y ys all fails = cond-false (p y) _ _ fails
prefix_len_stop p (x ∷ xs) y ys all fails = let parts = and_parts _ _ all in
    cond-true (p x) _ _ parts.0
    ∙ (let more = prefix_len_stop p xs y ys parts.1 fails in omega arith)

pub take_front : {X : Type 0} (p : X → Bool) (xs : List X) (y : X) (ys : List X)
    → list_all p xs ≡ true → p y ≡ false → take (prefix_len p (xs ++ y ∷ ys)) (xs ++ y ∷ ys) ≡ xs
take_front p xs y ys all fails =
    ap (λ n. take n (xs ++ y ∷ ys)) (prefix_len_stop p xs y ys all fails)
    ∙ take-append_seam xs (y ∷ ys)

pub drop_front : {X : Type 0} (p : X → Bool) (xs : List X) (y : X) (ys : List X)
    → list_all p xs ≡ true → p y ≡ false
    → drop (prefix_len p (xs ++ y ∷ ys)) (xs ++ y ∷ ys) ≡ y ∷ ys
drop_front p xs y ys all fails =
    ap (λ n. drop n (xs ++ y ∷ ys)) (prefix_len_stop p xs y ys all fails)
    ∙ drop-append_seam xs (y ∷ ys)

one_more : (n : ℕ) → 1 + n ≡ suc n
one_more n = omega arith

-- each element of the front passes
pub front_passes : {X : Type 0} (p : X → Bool) (xs : List X)
    → list_all p (take (prefix_len p xs) xs) ≡ true
front_passes p [] = refl
front_passes {X} p (x ∷ xs) = elim (cases_Bool (p x)) [
  | inl passes ↦ rw (passes, one_more) (and_from _ _ passes (front_passes p xs))
  | inr fails ↦ rw fails refl
]

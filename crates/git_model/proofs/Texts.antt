-- The tests of what a text begins with, ends with and holds decide those facts.
use Rattle.std.proofs.Common.{◌≡◌, ℕ, List, [], ◌∷◌, ◌++◌, Bool, true, false, not, ◌&&◌, length, drop, take, ◌-◌, refl, nat_eq, inl, inr}
use Rattle.std.specs.Bool.{Decides}
use Rattle.std.specs.List.{starts_with, ends_with, list_all, AllByRecursion}
use Rattle.std.proofs.lemmas.Bool.Decides.{Decides-eqb}
use Rattle.std.proofs.lemmas.Bool.{and_parts, and_from, or_cases, or_left, or_right}
use Rattle.std.proofs.lemmas.Slice.Eq.{starts_is, ends_is}
use Rattle.git_model.specs.Bytes.{BeginsWith, EndsWith, Holds, holds}

pub begins_test : (text front : List ℕ)
    → Decides (starts_with nat_eq text front) (BeginsWith text front)
begins_test text front =
    let tells = starts_is Decides-eqb text front (starts_with nat_eq text front) refl in
    (λ e. (drop (length front) text, tells.0 e), λ h. tells.1 h.0 h.1)

pub ends_test : (text back : List ℕ) → Decides (ends_with nat_eq text back) (EndsWith text back)
ends_test text back =
    let tells = ends_is Decides-eqb text back (ends_with nat_eq text back) refl in
    (λ e. (take (length text - length back) text, tells.0 e), λ h. tells.1 h.0 h.1)

-- a list of one element or more is not the empty one
Holds-nil : (part before after : List ℕ) → [] ≡ before ++ (part ++ after) → BeginsWith [] part
Holds-nil part [] after e = (after, e)
Holds-nil part (b ∷ before) after e = cc

Holds-cons : (x : ℕ) (xs part before after : List ℕ)
    → (BeginsWith (x ∷ xs) part → holds (x ∷ xs) part ≡ true)
    → (Holds xs part → holds (x ∷ xs) part ≡ true)
    → x ∷ xs ≡ before ++ (part ++ after) → holds (x ∷ xs) part ≡ true
Holds-cons x xs part [] after here there e = here (after, e)
Holds-cons x xs part (b ∷ before) after here there e = there (before, after, cc)

-- what holds of the rest holds of the whole
Holds-more : (x : ℕ) (xs part : List ℕ) → Holds xs part → Holds (x ∷ xs) part
Holds-more x xs part h = (x ∷ h.0, h.1, cc)

pub holds_test : (text part : List ℕ) → Decides (holds text part) (Holds text part)
holds_test [] part = let here = begins_test [] part in
    (λ e. ([], (here.0 e).0, (here.0 e).1), λ h. here.1 (Holds-nil part h.0 h.1 h.2))
holds_test (x ∷ xs) part =
    let here = begins_test (x ∷ xs) part in let there = holds_test xs part in (
      λ e. elim
          (or_cases _ _ e) [
            | inl h ↦ ([], (here.0 h).0, (here.0 h).1)
            | inr h ↦ Holds-more x xs part
                (there.0 h)
          ],
      λ h. Holds-cons x xs part h.0 h.1 (λ b. or_left _ _ (here.1 b))
          (λ r. or_right _ _ (there.1 r)) h.2,
    )

-- a test of each element decides a fact of each element
pub all_test : {X : Type 0} (p : X → Bool) (P : X → Type 0) → ((x : X) → Decides (p x) (P x))
    → (xs : List X) → Decides (list_all p xs) (AllByRecursion P xs)
all_test p P each [] = (λ _. tt, λ _. refl)
all_test p P each (x ∷ xs) = let rest = all_test p P each xs in (
  λ e. let parts = and_parts _ _ e in ((each x).0 parts.0, rest.0 parts.1),
  λ h. and_from _ _
      ((each x).1 h.0) (rest.1 h.1),
)

-- the negation of a test decides the negation
pub not_test : {P : Type 0} (b : Bool) → Decides b P → Decides (not b) (¬ P)
not_test true d = (λ e. cc, λ no_p. absurd (no_p (d.0 refl)))
not_test false d = (λ e p. let h = d.1 p in cc, λ _. refl)

pub and_test : {P Q : Type 0} (a b : Bool) → Decides a P → Decides b Q → Decides (a && b) (P × Q)
and_test a b p q = (
  λ e. let parts = and_parts _ _ e in (p.0 parts.0, q.0 parts.1),
  λ h. and_from _ _ (p.1 h.0)
      (q.1 h.1),
)

pub all_weaker : {X : Type 0} {P Q : X → Type 0} → ((x : X) → P x → Q x) → (xs : List X)
    → AllByRecursion P xs → AllByRecursion Q xs
all_weaker f [] h = tt
all_weaker f (x ∷ xs) h = (f x h.0, all_weaker f xs h.1)

pub all_three : {X : Type 0} {P Q R S : X → Type 0} → ((x : X) → P x → Q x → R x → S x)
    → (xs : List X)
    → AllByRecursion P xs → AllByRecursion Q xs → AllByRecursion R xs → AllByRecursion S xs
all_three f [] p q r = tt
all_three f (x ∷ xs) p q r = (f x p.0 q.0 r.0, all_three f xs p.1 q.1 r.1)

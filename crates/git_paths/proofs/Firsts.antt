-- The first component of a path, by its bytes.
use Rattle.std.proofs.Common.{◌≡◌, ◌≢◌, ℕ, ◌+◌, ◌<◌, false, List, [], ◌∷◌, ◌++◌, length, get_or, take, drop, All, refl, sym, ap, ◌∙◌, subst, add-one, drop-cons, arith}
use Rattle.std.specs.List.{slice_split}
use Rattle.std.proofs.lemmas.Bool.{ne_eqb}
use Rattle.std.proofs.lemmas.List.{take-append-drop, get_or-take, length-take}
use Rattle.std.proofs.lemmas.List.Elements.{All-head, All-tail, All-cons, All-nil, All-weaker, All-from_get_or}
use Rattle.std.proofs.lemmas.List.Splits.{slice_split_none, slice_split_at}
use Rattle.git_paths.specs.Paths.{IsComponent, IsPath, is_slash, components_of}

no_test : (xs : List ℕ) → All (λ b. b ≢ 47) xs → All (λ b. is_slash b ≡ false) xs
no_test xs h = All-weaker (λ b. b ≢ 47) (λ b. is_slash b ≡ false) (λ b ne. ne_eqb b 47 ne) xs h

-- bytes that are there are cut at their slashes
cut : (b : ℕ) (bytes : List ℕ) → components_of (b ∷ bytes) ≡ slice_split is_slash (b ∷ bytes)
cut b bytes = refl

-- bytes without a slash are one component
pub one_component : (bytes : List ℕ) → 0 < length bytes → All (λ b. b ≢ 47) bytes
    → components_of bytes ≡ bytes ∷ []
one_component [] some none = absurd (omega arith)
one_component (b ∷ bytes) some none =
    slice_split_none is_slash (b ∷ bytes) (no_test (b ∷ bytes) none)

-- what stands after a slash of a path has its components by cutting
after_slash : (name rest : List ℕ) → IsPath (name ∷ slice_split is_slash rest)
    → slice_split is_slash rest ≡ components_of rest
after_slash name [] h =
    absurd
    ((All-head IsComponent [] [] (All-tail IsComponent name ([] ∷ []) h)).not_empty refl)
after_slash name (b ∷ rest) h = refl

cut_bytes : (name rest : List ℕ) → All (λ b. b ≢ 47) name
    → IsPath (slice_split is_slash (name ++ 47 ∷ rest))
    → slice_split is_slash (name ++ 47 ∷ rest) ≡ name ∷ components_of rest
cut_bytes name rest none h =
    let at = slice_split_at is_slash name 47 rest (no_test name none) refl in
    at ∙ ap (λ (others : List (List ℕ)). name ∷ others) (after_slash name rest (subst IsPath at h))

-- all bytes that are no root are cut
cut_some : (bytes : List ℕ) → 0 < length bytes → components_of bytes ≡ slice_split is_slash bytes
cut_some [] some = absurd (omega arith)
cut_some (b ∷ bytes) some = refl

-- the component before the first slash, and those after it
pub first_component : (bytes : List ℕ) (at : ℕ) → at < length bytes → get_or bytes at 0 ≡ 47
    → ((k : ℕ) → k < at → get_or bytes k 0 ≢ 47) → IsPath (components_of bytes)
    → components_of bytes ≡ take at bytes ∷ components_of (drop (at + 1) bytes)
first_component bytes at within slash first is =
    let whole : bytes ≡ take at bytes ++ 47 ∷ drop (at + 1) bytes =
    sym (take-append-drop at bytes)
    ∙ ap (λ (t : List ℕ). take at bytes ++ t) (drop-cons bytes at 0 within)
    ∙ rw (add-one, slash) refl in
    let none : All (λ b. b ≢ 47) (take at bytes) =
    All-from_get_or (λ b. b ≢ 47) (take at bytes) 0
    (λ k lt. let below : k < at = omega (arith, length-take at bytes) in rw (get_or-take at bytes k 0 below) (first k below)) in
    let parts = cut_some bytes (omega arith) in
    let split : slice_split is_slash bytes ≡ slice_split is_slash (take at bytes ++ 47 ∷ drop (at + 1) bytes) =
    ap (slice_split is_slash) whole in
    parts ∙ split
    ∙ cut_bytes (take at bytes) (drop (at + 1) bytes) none (subst IsPath (parts ∙ split) is)

-- a component is a path of its own
pub name_alone : (name : List ℕ) → IsComponent name → components_of name ≡ name ∷ []
name_alone [] h = absurd (h.not_empty refl)
name_alone (b ∷ name) h = one_component (b ∷ name) (omega arith) h.no_slash

pub IsPath-name : (name : List ℕ) → IsComponent name → IsPath (components_of name)
IsPath-name name h =
    subst IsPath (sym (name_alone name h)) (All-cons IsComponent name [] h (All-nil IsComponent))

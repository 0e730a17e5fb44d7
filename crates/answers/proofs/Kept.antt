-- A text that stays at the front while others are put after it.
use Rattle.std.proofs.Common.{◌≡◌, ℕ, ◌+◌, List, [], ◌∷◌, ◌++◌, length, take, drop, Some, slice_get, sym, ap, ◌∙◌, append-nil}
use Rattle.std.specs.List.{flat_map}
use Rattle.std.proofs.lemmas.Grind.{flat_map-append}
use Rattle.std.proofs.lemmas.List.{append_assoc, take-append-drop, take_more}
use Rattle.std.proofs.lemmas.Option.{get_or_from_slice_get, slice_get_within}
use Rattle.git_objects.proofs.Kept.{kept_front}

pub kept_twice : (old mid new : List ℕ) → take (length old) mid ≡ old → take (length mid) new ≡ mid
    → take (length old) new ≡ old
kept_twice old mid new first later =
    kept_front old mid new (drop (length old) mid)
    (sym (take-append-drop (length old) mid) ∙ ap (λ front. front ++ drop (length old) mid) first) later

-- one line more, of the element at a position
pub one_more : {X : Type 0} (line : X → List ℕ) (old mid new : List ℕ) (xs : List X) (i : ℕ) (x : X)
    → Some x ≡ slice_get xs i → mid ≡ old ++ flat_map line (take i xs) → new ≡ mid ++ line x
    → new ≡ old ++ flat_map line (take (i + 1) xs)
one_more line old mid new xs i x at before grown =
    let within = slice_get_within xs i x (sym at) in
    let next : take (i + 1) xs ≡ take i xs ++ x ∷ [] =
    take_more xs i x within ∙ ap (λ y. take i xs ++ y ∷ []) (get_or_from_slice_get xs i x x (sym at)) in
    grown ∙ ap (λ front. front ++ line x) before ∙ append_assoc old (flat_map line (take i xs)) (line x)
    ∙ ap (λ lines. old ++ lines)
    (ap (λ last. flat_map line (take i xs) ++ last) (sym (append-nil (line x)))
    ∙ sym (flat_map-append line (take i xs) (x ∷ [])) ∙ ap (flat_map line) (sym next))

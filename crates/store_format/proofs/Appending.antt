-- Texts that are appended one after the other.
use Rattle.std.proofs.Common.{◌≡◌, ℕ, ◌+◌, ◌<◌, List, [], ◌∷◌, ◌++◌, length, map, take, get_or, sym, ap, ◌∙◌, append_assoc, append-nil}
use Rattle.std.specs.List.{flat_map}
use Rattle.std.proofs.lemmas.List.{take_more, map_push}
use Rattle.std.proofs.lemmas.List.Concat.{flat_map-cons, flat_map-append}

pub then_appended : (a b c x y : List ℕ) → b ≡ a ++ x → c ≡ b ++ y → c ≡ a ++ (x ++ y)
then_appended a b c x y p q = q ∙ ap (λ (l : List ℕ). l ++ y) p ∙ append_assoc a x y

one_text : {B : Type 0} (text : B → List ℕ) (y : B) → flat_map text (y ∷ []) ≡ text y
one_text text y = flat_map-cons text y [] ∙ append-nil (text y)

-- The texts of some items, and then that of one more.
pub texts_on : {A B : Type 0} (text : B → List ℕ) (view : A → B) (old now after : List ℕ) (xs : List A) (i : ℕ) (x : A) → i < length xs → x ≡ get_or xs i x
    → now ≡ old ++ flat_map text (map view (take i xs)) → after ≡ now ++ text (view x) → after ≡ old ++ flat_map text (map view (take (i + 1) xs))
texts_on {A} {B} text view old now after xs i x lt is before one =
    let front = map view (take i xs) in
    let taken : map view (take (i + 1) xs) ≡ front ++ view (get_or xs i x) ∷ [] = ap (map view) (take_more xs i x lt) ∙ map_push view (take i xs) (get_or xs i x) in
    let same : front ++ view (get_or xs i x) ∷ [] ≡ front ++ view x ∷ [] = ap (λ (y : A). front ++ view y ∷ []) (sym is) in
    let texts : flat_map text (map view (take (i + 1) xs)) ≡ flat_map text front ++ text (view x) =
    ap (flat_map text) (taken ∙ same) ∙ flat_map-append text front (view x ∷ []) ∙ ap (λ (l : List ℕ). flat_map text front ++ l) (one_text text (view x)) in
    then_appended old now after (flat_map text front) (text (view x)) before one ∙ ap (λ (l : List ℕ). old ++ l) (sym texts)

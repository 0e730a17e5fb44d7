-- The chain of some texts, and then of one more.
use Rattle.std.proofs.Common.{◌≡◌, ℕ, ◌+◌, ◌<◌, List, [], ◌∷◌, ◌++◌, length, map, take, get_or, ap, ◌∙◌}
use Rattle.std.proofs.lemmas.List.{take_more, map_push}
use Rattle.std.proofs.lemmas.List.Sums.{fold-append}
use Rattle.store_format.specs.Chains.{chained_on}

pub chained_more : {A B : Type 0} (digest : List ℕ → List ℕ) (text : B → List ℕ) (view : A → B) (chain : List ℕ) (xs : List A) (i : ℕ) (d : A) → i < length xs
    → chained_on digest text chain (map view (take (i + 1) xs)) ≡ digest (chained_on digest text chain (map view (take i xs)) ++ text (view (get_or xs i d)))
chained_more {A} digest text view chain xs i d lt =
    ap (λ (ys : List A). chained_on digest text chain (map view ys)) (take_more xs i d lt)
    ∙ ap (chained_on digest text chain) (map_push view (take i xs) (get_or xs i d))
    ∙ fold-append (λ (c : List ℕ) x. digest (c ++ text x)) chain (map view (take i xs)) (view (get_or xs i d) ∷ [])

-- The items of a loop, as values of the definitions.
use Rattle.std.proofs.Common.{◌≡◌, ℕ, suc, ◌+◌, ◌<◌, List, [], ◌∷◌, ◌++◌, map, length, take, get_or, sym, ap, subst, ◌∙◌, arith}
use Rattle.std.specs.Prelude.{All}
use Rattle.std.proofs.Math.Seq.{take-suc}
use Rattle.std.proofs.lemmas.List.{get_or-map, length-map, map-append}

module _ {X Y : Type 0} (shown : X → Y) where
  -- what holds of all holds of the one at the place of the loop
  pub all_at : (P : Y → Type 0) (xs : List X) (i : ℕ) (x : X) → All P (map shown xs) → i < length xs
      → x ≡ get_or xs i x → P (shown x)
  all_at P xs i x all l e =
      subst P (get_or-map shown xs i x (shown x) l ∙ ap shown (sym e))
      (all i (shown x) (rw length-map l))

  -- those so far, and it
  pub shown_on : (xs : List X) (i : ℕ) (x : X) → i < length xs → x ≡ get_or xs i x
      → map shown (take (i + 1) xs) ≡ map shown (take i xs) ++ shown x ∷ []
  shown_on xs i x l e =
      let next : i + 1 ≡ suc i = omega arith in
      ap (λ (n : ℕ). map shown (take n xs)) next ∙ ap (map shown) (take-suc xs i x l)
      ∙ ap (λ (y : X). map shown (take i xs ++ y ∷ [])) (sym e)
      ∙ map-append shown (take i xs) (x ∷ [])

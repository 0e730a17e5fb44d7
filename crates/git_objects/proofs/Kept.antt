-- A text that stays at the front while others are put after it.
use Rattle.std.proofs.Common.{◌≡◌, ◌≤◌, List, ◌++◌, length, take, sym, ap, ◌∙◌, refl, arith, ℕ}
use Rattle.std.proofs.lemmas.List.{take-take, take_at, length-append, append_assoc}

pub kept_front : (old mid new more : List ℕ) → mid ≡ old ++ more → take (length mid) new ≡ mid
    → take (length old) new ≡ old
kept_front old mid new more grown kept =
    let long : length old ≤ length mid = omega (arith, ap length grown, length-append old more) in
    sym (take-take (length old) (length mid) new long) ∙ ap (take (length old)) (kept ∙ grown)
    ∙ take_at old more (length old) refl

-- six pieces put after a text, one after the other
pub six_appended : (old n₁ n₂ n₃ n₄ n₅ a b c d e f : List ℕ) → n₁ ≡ old ++ a → n₂ ≡ n₁ ++ b
    → n₃ ≡ n₂ ++ c → n₄ ≡ n₃ ++ d → n₅ ≡ n₄ ++ e ++ f → n₅ ≡ old ++ (a ++ b ++ c ++ d ++ e ++ f)
six_appended old n₁ n₂ n₃ n₄ n₅ a b c d e f e₁ e₂ e₃ e₄ e₅ =
    e₅
    ∙ ap (λ x. x ++ e ++ f)
    (e₄ ∙ ap (λ x. x ++ d) (e₃ ∙ ap (λ x. x ++ c) (e₂ ∙ ap (λ x. x ++ b) e₁)))
    ∙ grouped
  where
    grouped : (old ++ a ++ b ++ c ++ d) ++ e ++ f ≡ old ++ (a ++ b ++ c ++ d ++ e ++ f)
    grouped = simp append_assoc

-- five pieces
pub five_appended : (old n₁ n₂ n₃ n₄ a b c d e : List ℕ) → n₁ ≡ old ++ a → n₂ ≡ n₁ ++ b
    → n₃ ≡ n₂ ++ c → n₄ ≡ n₃ ++ d ++ e → n₄ ≡ old ++ (a ++ b ++ c ++ d ++ e)
five_appended old n₁ n₂ n₃ n₄ a b c d e e₁ e₂ e₃ e₄ =
    e₄ ∙ ap (λ x. x ++ d ++ e) (e₃ ∙ ap (λ x. x ++ c) (e₂ ∙ ap (λ x. x ++ b) e₁)) ∙ grouped
  where
    grouped : (old ++ a ++ b ++ c) ++ d ++ e ≡ old ++ (a ++ b ++ c ++ d ++ e)
    grouped = simp append_assoc

-- What a reader answers that takes one part from the front of a text.
use Rattle.std.specs.Prelude.{◌≡◌, ℕ, List, ◌++◌, Option, Some, IfSome}

-- If the bytes begin with the text of a value, the reader answers the value and what follows its
-- text. Otherwise it answers nothing.
pub record IsFront {X : Type 0} (Is : X → Type 0) (text : X → List ℕ) (bytes : List ℕ)
    (read : Option (X × List ℕ)) : Type 0 where
  pub found : IfSome read (λ r. Is r.0 × (bytes ≡ text r.0 ++ r.1))
  pub only : (x : X) (rest : List ℕ) → Is x → bytes ≡ text x ++ rest → read ≡ Some (x, rest)

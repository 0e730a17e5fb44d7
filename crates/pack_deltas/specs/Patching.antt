-- What carrying instructions out answers, for private contracts.
use Rattle.std.specs.Prelude.{◌≡◌, ◌≢◌, ℕ, Bool, true, false, List, length, Some}
use Rattle.pack_deltas.specs.Delta.{made_by}

-- Instructions make this text, which has the size; or they make no text that has it.
abbrev pub IsMadeOrNot : List ℕ → List ℕ → ℕ → List ℕ → Bool → Type 0
IsMadeOrNot base instructions size made true =
    (made_by base instructions ≡ Some made) × (length made ≡ size)
IsMadeOrNot base instructions size made false =
    (text : List ℕ) → made_by base instructions ≡ Some text → length text ≢ size

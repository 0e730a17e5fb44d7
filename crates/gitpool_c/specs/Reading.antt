-- What is copied to a room of the caller's.
use Rattle.std.specs.Prelude.{◌≡◌, ◌++◌, ℕ, min, List, length, take, drop}

-- The front of the room has the first bytes, as many as there are and fit. The rest is as it was.
pub record HasRead (bytes before : List ℕ) (many : ℕ) (after : List ℕ) : Type 0 where
  pub counted : many ≡ min (length bytes) (length before)
  pub copied : after ≡ take many bytes ++ drop many before

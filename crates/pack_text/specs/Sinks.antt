-- What a vector took of an entry.
use Rattle.std.specs.Prelude.{◌≡◌, ℕ, List, ◌++◌, length, take}

-- A vector has more bytes at its end.
abbrev pub HasAppended : List ℕ → List ℕ → List ℕ → Type 0
HasAppended old new bytes = new ≡ old ++ bytes

-- A vector still begins with what it had.
abbrev pub HasBegun : List ℕ → List ℕ → Type 0
HasBegun old new = take (length old) new ≡ old

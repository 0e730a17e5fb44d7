-- How a path is written in a line: git-fast-import(1), `M`, `D`, `C` and `R`.
use Rattle.std.specs.Prelude.{◌≢◌, ℕ, List, [], ◌∷◌, ◌++◌, All}
use Rattle.std.specs.Borrow.{Bor}
use Rattle.std.specs.Global.{Vec}
use Rattle.git_paths.specs.declared.place.Place.{Place}
use Rattle.git_paths.specs.declared.place.Place.TheVariants.{Source, Last}
use Rattle.git_paths.specs.Paths.{IsPath, IsWithinLimits, joined, components_of}
use Rattle.git_paths.specs.Quoting.{Quotes}

-- a text does not begin with a quote
abbrev pub IsUnquoted : List ℕ → Type 0
IsUnquoted [] = Unit {0}
IsUnquoted (b ∷ text) = b ≢ 34

-- A text begins with the bytes of a path, written as this place requires, and has the rest after
-- the path. After a source comes a space; after a last path comes nothing.
pub data Writes : Place → List ℕ → List ℕ → List ℕ → Type 0 where
  unquoted_source : (bytes rest : List ℕ) → IsUnquoted (bytes ++ 32 ∷ rest)
      → All (λ b. b ≢ 32) bytes
      → Writes Source (bytes ++ 32 ∷ rest) bytes rest
  quoted_source : (inside bytes rest : List ℕ) → Quotes inside bytes
      → Writes Source (34 ∷ inside ++ 34 ∷ 32 ∷ rest) bytes rest
  unquoted_last : (bytes : List ℕ) → IsUnquoted bytes
      → Writes Last bytes bytes []
  quoted_last : (inside bytes : List ℕ) → Quotes inside bytes
      → Writes Last (34 ∷ inside ++ 34 ∷ []) bytes []

-- A text begins with a path within the limits at this place, and has the rest after it.
pub record BeginsWith (place : Place) (text : List ℕ) (path : List (List ℕ))
    (rest : List ℕ) : Type 0 where
  pub is_path : IsPath path
  pub limits : IsWithinLimits path
  pub written : Writes place text (joined path) rest

-- what a call answered: the path, and the bytes of the rest
abbrev pub shown : List (List ℕ) × Bor (List ℕ) → List (List ℕ) × List ℕ
shown r = (r.0, r.1.now)

-- the same for a call that answered the bytes of the path
abbrev pub bytes_shown : Vec ℕ × Bor (List ℕ) → List (List ℕ) × List ℕ
bytes_shown r = (components_of r.0.items, r.1.now)

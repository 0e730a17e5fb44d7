-- Quoted paths: git-config(1), core.quotePath, and git-fast-import(1), on C-style quoting.
use Rattle.std.specs.Prelude.{◌≡◌, ◌≢◌, ℕ, ◌+◌, ◌*◌, ◌/◌, ◌%◌, ◌-◌, ◌<◌, ◌≤◌, Bool, ◌&&◌, ◌||◌, ◌==◌, nat_lt, nat_le, if◌then◌else◌, List, [], ◌∷◌, ◌++◌, find, Option, Some, None}
use Rattle.std.specs.List.{flat_map, list_any}
use Rattle.std.specs.Option.{option_map}

-- the letters after a backslash, and the bytes that they mean
abbrev pub letters : List (ℕ × ℕ)
letters =
    (97, 7) ∷ (98, 8) ∷ (116, 9) ∷ (110, 10) ∷ (118, 11) ∷ (102, 12) ∷ (114, 13) ∷ (34, 34)
    ∷ (92, 92) ∷ []

-- the byte that a letter means
unfoldable pub byte_of_letter : ℕ → Option ℕ
byte_of_letter letter = option_map (λ e. e.1) (find (λ e. e.0 == letter) letters)

-- the letter of a byte, if it has one
unfoldable pub letter_of_byte : ℕ → Option ℕ
letter_of_byte byte = option_map (λ e. e.0) (find (λ e. e.1 == byte) letters)

-- ---- printing

-- A quote, a backslash, a byte below 0x20 and one from 0x7f to 0xff are not printed as they are. A
-- number above 0xff is no byte: it stands for itself here, as it does where quotes are read.
abbrev pub is_special : ℕ → Bool
is_special b = b == 34 || b == 92 || nat_lt b 32 || nat_le 127 b && nat_lt b 256

-- a byte between the quotes: itself, its letter, or three octal digits
abbrev pub escape_by : ℕ → Option ℕ → List ℕ
escape_by b (Some letter) = 92 ∷ letter ∷ []
escape_by b None =
    if is_special b then 92 ∷ (48 + b / 64) ∷ (48 + b / 8 % 8) ∷ (48 + b % 8) ∷ [] else b ∷ []

unfoldable pub escape : ℕ → List ℕ
escape b = escape_by b (letter_of_byte b)

-- the bytes between quotes
abbrev pub in_quotes : List ℕ → List ℕ
in_quotes bytes = 34 ∷ flat_map escape bytes ++ 34 ∷ []

-- the printed bytes: in quotes exactly if one of them is special
unfoldable pub quoted : List ℕ → List ℕ
quoted bytes = if list_any is_special bytes then in_quotes bytes else bytes

-- ---- reading

-- an octal digit, and the byte that three of them mean
pub record IsOctal (digit : ℕ) : Type 0 where
  pub from_zero : 48 ≤ digit
  pub to_seven : digit < 56

abbrev pub octal_value : ℕ → ℕ → ℕ → ℕ
octal_value x y z = 64 * (x - 48) + 8 * (y - 48) + (z - 48)

-- The text between the quotes, and the bytes that it means: each byte is written as itself, by its
-- letter, or by three octal digits.
pub data Quotes : List ℕ → List ℕ → Type 0 where
  nothing : Quotes [] []
  itself : (b : ℕ) (inside bytes : List ℕ) → b ≢ 34 → b ≢ 92 → Quotes inside bytes
      → Quotes (b ∷ inside) (b ∷ bytes)
  letter : (c b : ℕ) (inside bytes : List ℕ) → byte_of_letter c ≡ Some b → Quotes inside bytes
      → Quotes (92 ∷ c ∷ inside) (b ∷ bytes)
  octal : (x y z : ℕ) (inside bytes : List ℕ) → IsOctal x → IsOctal y → IsOctal z
      → octal_value x y z < 256 → Quotes inside bytes
      → Quotes (92 ∷ x ∷ y ∷ z ∷ inside) (octal_value x y z ∷ bytes)

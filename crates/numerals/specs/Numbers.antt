-- Decimal numbers in texts: git-fast-import(1), "data", "mark" and "Date Formats".
use Rattle.std.specs.Prelude.{ℕ, ◌^◌, ◌&&◌, nat_lt, nat_le, Bool, if◌then◌else◌, List, length, Option, Some, None}
use Rattle.std.specs.Char.{is_ascii_digit}
use Rattle.std.specs.List.{list_all}
use Rattle.std.specs.Str.Parse.{digits_value}

-- A text is a numeral if it is 1 to 20 decimal digits.
abbrev pub is_numeral : List ℕ → Bool
is_numeral text = nat_lt 0 (length text) && nat_le (length text) 20 && list_all is_ascii_digit text

-- A number if it is below 2^64, and nothing otherwise.
abbrev pub in_64_bits : ℕ → Option ℕ
in_64_bits number = if nat_lt number (2 ^ 64) then Some number else None

-- The number that a numeral writes, if it is below 2^64. Leading zeros are allowed: `007` is 7. The
-- texts `+7`, `7 ` and the empty text write no number.
unfoldable pub number_of : List ℕ → Option ℕ
number_of text = if is_numeral text then in_64_bits (digits_value 10 text) else None

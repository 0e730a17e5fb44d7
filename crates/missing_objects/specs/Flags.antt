-- Flags in words of 64 bits, the lowest bit first, for private contracts.
use Rattle.std.specs.Prelude.{ℕ, ◌/◌, ◌%◌, ◌==◌, Bool, List, map, get_or}
use Rattle.std.specs.Int.{bit_at}
use Rattle.std.specs.List.{range_with_len}

-- Whether the flag at a place is set.
unfoldable pub flag_in : List ℕ → ℕ → Bool
flag_in words place = bit_at (get_or words (place / 64) 0) (place % 64) == 1

-- The first n flags.
unfoldable pub flags_in : List ℕ → ℕ → List Bool
flags_in words n = map (flag_in words) (range_with_len 0 n)

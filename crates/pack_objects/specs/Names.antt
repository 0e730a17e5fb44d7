-- Object names as bytes.
use Rattle.std.specs.Prelude.{ℕ, ◌*◌, ◌/◌, List, length, take, drop, map}
use Rattle.std.specs.List.{range_with_len}

-- The names in these bytes: 20 bytes for each, one after another.
abbrev pub names_in : List ℕ → List (List ℕ)
names_in bytes = map (λ k. take 20 (drop (20 * k) bytes)) (range_with_len 0 (length bytes / 20))

-- Adler-32: RFC 1950, section 8.2.
use Rattle.std.specs.Prelude.{ℕ, ◌+◌, ◌*◌, ◌%◌, List, [], ◌∷◌, sum}

-- The sum of the running sums of these bytes, one after each byte; `low` is the running sum before
-- them. RFC 1950 calls it s2.
unfoldable pub high_sum : ℕ → List ℕ → ℕ
high_sum low [] = 0
high_sum low (b ∷ bs) = (low + b) + high_sum (low + b) bs

-- s2 * 65536 + s1, where s1 is one more than the sum of the bytes, each modulo 65521.
abbrev pub adler32 : List ℕ → ℕ
adler32 bytes = high_sum 1 bytes % 65521 * 65536 + (1 + sum bytes) % 65521

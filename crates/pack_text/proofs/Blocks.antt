-- Stored blocks: their lengths, and that they are read back.
use Rattle.std.proofs.Common.{◌≡◌, ◌+◌, ◌*◌, ◌/◌, ◌-◌, ◌<◌, ◌≤◌, ℕ, zero, suc, List, ◌++◌, length, take, drop, Bool, true, false, None, Some, arith, refl, ap, ◌∙◌, append_assoc}
use Rattle.std.specs.Prelude.{nat_le, ◌==◌, ◌&&◌, if◌then◌else◌}
use Rattle.std.specs.Int.{w16, from_le_bytes, to_le_bytes}
use Rattle.std.specs.Option.{option_map}
use Rattle.std.proofs.lemmas.Bool.Decides.{nat_tests}
use Rattle.std.proofs.Math.Seq.{take-append_seam, drop-append_seam}
use Rattle.std.proofs.lemmas.Nat.{from_le_bytes-to_le_bytes_2}
use Rattle.std.proofs.lemmas.List.{length-append, length-drop, length-take-le, take-append-drop}
use Rattle.pack_text.specs.PackText.{block_text, blocks_text}
use Rattle.pack_text.specs.PackReading.{block_read, blocks_read}

pub blocks-last : (n : ℕ) (bytes : List ℕ) → length bytes ≤ 65535
    → blocks_text n bytes ≡ block_text 1 bytes
unfolding blocks_text
blocks-last zero bytes short = refl
blocks-last (suc n) bytes short = grind (arith, nat_tests)

pub blocks-more : (n : ℕ) (bytes : List ℕ) → 65535 < length bytes
    → blocks_text (suc n) bytes ≡ block_text 0 (take 65535 bytes) ++ blocks_text n (drop 65535 bytes)
unfolding blocks_text
blocks-more n bytes long = grind (arith, nat_tests)

block-length : (last : ℕ) (bytes : List ℕ) → length (block_text last bytes) ≡ 5 + length bytes
block-length last bytes = omega arith

short_if : (bytes : List ℕ) → nat_le (length bytes) 65535 ≡ true → length bytes ≤ 65535
short_if bytes e = grind (arith, nat_tests, e)

long_if : (bytes : List ℕ) → nat_le (length bytes) 65535 ≡ false → 65535 < length bytes
long_if bytes e = grind (arith, nat_tests, e)

length-by : (n : ℕ) (bytes : List ℕ) (short : Bool) → nat_le (length bytes) 65535 ≡ short
    → length bytes ≤ n
    → length (blocks_text n bytes) ≡ ((length bytes - 1) / 65535 + 1) * 5 + length bytes
length-by n bytes true e few =
    let short = short_if bytes e in
    let text = ap length (blocks-last n bytes short) in
    omega (arith, text, block-length 1 bytes, short)
length-by zero bytes false e few = let long = long_if bytes e in absurd (omega (arith, few, long))
length-by (suc n) bytes false e few =
    let long = long_if bytes e in
    let part = take 65535 bytes in
    let rest = drop 65535 bytes in
    let size : length rest ≡ length bytes - 65535 = length-drop 65535 bytes in
    let text = ap length (blocks-more n bytes long) in
    let both = length-append (block_text 0 part) (blocks_text n rest) in
    let one = block-length 0 part in
    let full : length part ≡ 65535 = length-take-le 65535 bytes (omega (arith, long)) in
    let more = length-by n rest (nat_le (length rest) 65535) refl (omega (arith, size, few)) in
    omega (arith, text, both, one, full, more, size, long)

pub blocks-length : (bytes : List ℕ) → length (blocks_text (length bytes) bytes)
    ≡ ((length bytes - 1) / 65535 + 1) * 5 + length bytes
blocks-length bytes =
    length-by (length bytes) bytes (nat_le (length bytes) 65535) refl (omega arith)

-- ---- reading

-- A number below 65536 is read back from its two bytes.
number-back : (n : ℕ) → n ≤ 65535 → from_le_bytes w16 (to_le_bytes w16 n) ≡ n
number-back n few = from_le_bytes-to_le_bytes_2 n (omega (arith, few))

block-back : (bytes rest : List ℕ) (size complement : ℕ) → size ≡ length bytes
    → size + complement ≡ 65535 → block_read size complement (bytes ++ rest) ≡ Some (bytes, rest)
block-back bytes rest size complement is all =
    let test : (size + complement == 65535 && nat_le size (length (bytes ++ rest))) ≡ true =
    grind (arith, nat_tests, is, all, length-append bytes rest) in
    ap (λ (t : Bool). if t then Some (take size (bytes ++ rest), drop size (bytes ++ rest)) else None)
    test
    ∙ ap (λ (n : ℕ). Some (take n (bytes ++ rest), drop n (bytes ++ rest))) is
    ∙ ap (λ (l : List ℕ). Some (l, drop (length bytes) (bytes ++ rest))) (take-append_seam bytes rest)
    ∙ ap (λ (l : List ℕ). Some (bytes, l)) (drop-append_seam bytes rest)

-- The same, where the length and its complement are read from two bytes each.
sized-back : (bytes rest : List ℕ) → length bytes ≤ 65535
    → block_read (from_le_bytes w16 (to_le_bytes w16 (length bytes)))
    (from_le_bytes w16 (to_le_bytes w16 (65535 - length bytes))) (bytes ++ rest)
    ≡ Some (bytes, rest)
sized-back bytes rest short =
    let size = number-back (length bytes) short in
    let complement = number-back (65535 - length bytes) (omega arith) in
    block-back bytes rest _ _ size (omega (arith, size, complement, short))

last-back : (fuel : ℕ) (bytes rest : List ℕ) → length bytes ≤ 65535
    → blocks_read (suc fuel) (block_text 1 bytes ++ rest) ≡ Some (bytes, rest)
unfolding blocks_read
last-back fuel bytes rest short = rw (sized-back bytes rest short) refl

more-back : (fuel : ℕ) (part rest : List ℕ) → length part ≡ 65535
    → blocks_read (suc fuel) (block_text 0 part ++ rest)
    ≡ option_map (λ (more : List ℕ × List ℕ). (part ++ more.0, more.1)) (blocks_read fuel rest)
unfolding blocks_read
more-back fuel part rest full = rw (sized-back part rest (omega (arith, full))) refl

back-by : (n fuel : ℕ) (bytes rest : List ℕ) (short : Bool)
    → nat_le (length bytes) 65535 ≡ short → length bytes ≤ n → n < fuel
    → blocks_read fuel (blocks_text n bytes ++ rest) ≡ Some (bytes, rest)
back-by n zero bytes rest short e few fits = absurd (omega (arith, fits))
back-by n (suc fuel) bytes rest true e few fits =
    let short = short_if bytes e in
    ap (λ (l : List ℕ). blocks_read (suc fuel) (l ++ rest)) (blocks-last n bytes short)
    ∙ last-back fuel bytes rest short
back-by zero (suc fuel) bytes rest false e few fits =
    let long = long_if bytes e in absurd (omega (arith, few, long))
back-by (suc n) (suc fuel) bytes rest false e few fits =
    let long = long_if bytes e in
    let part = take 65535 bytes in
    let after = drop 65535 bytes in
    let size : length after ≡ length bytes - 65535 = length-drop 65535 bytes in
    let full : length part ≡ 65535 = length-take-le 65535 bytes (omega (arith, long)) in
    ap (λ (l : List ℕ). blocks_read (suc fuel) (l ++ rest)) (blocks-more n bytes long)
    ∙ ap (blocks_read (suc fuel)) (append_assoc (block_text 0 part) (blocks_text n after) rest)
    ∙ more-back fuel part (blocks_text n after ++ rest) full
    ∙ ap (option_map (λ (more : List ℕ × List ℕ). (part ++ more.0, more.1)))
    (back-by n fuel after rest (nat_le (length after) 65535) refl (omega (arith, size, few))
    (omega (arith, fits)))
    ∙ ap (λ (l : List ℕ). Some (l, rest)) (take-append-drop 65535 bytes)

pub blocks-back : (fuel : ℕ) (bytes rest : List ℕ) → length bytes < fuel
    → blocks_read fuel (blocks_text (length bytes) bytes ++ rest) ≡ Some (bytes, rest)
blocks-back fuel bytes rest fits =
    back-by (length bytes) fuel bytes rest (nat_le (length bytes) 65535) refl (omega arith) fits

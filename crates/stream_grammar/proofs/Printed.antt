-- A mark in decimal digits, and an object name in hexadecimal ones, are read as they were written.
use Rattle.std.proofs.Common.{arith, sym, ◌∙◌, ap, ◌≡◌, ◌<◌, ◌^◌, ◌/◌, ◌==◌, ◌++◌, refl}
use Rattle.std.proofs.Common.{length, ℕ, false, List, [], ◌∷◌, Some, None, Ok, codes}
use Rattle.std.proofs.lemmas.Bool.{ne_eqb}
use Rattle.std.specs.Fmt.{decimal}
use Rattle.std.specs.Prelude.{slice_index}
use Rattle.hex.proofs.HexLemmas.{IsDigits-lower_digits, decode_pairs-encode_with, length-encode_with}
use Rattle.hex.specs.Hex.{IsBytes, decode_sized, encode_lower, encode_with, hex_digit_value, lower_digits}
use Rattle.stream_grammar.specs.declared.data_ref.DataRef.TheVariants as data_ref
use Rattle.stream_grammar.specs.Texts.{numbered, after_colon, mark_of, dataref_of}
use Rattle.numerals.proofs.Numerals.{number_of-decimal}

numbered-some : (n : ℕ) → 0 < n → numbered (Some n) ≡ Ok n
unfolding numbered
numbered-some n some =
    let other : (n == 0) ≡ false = ne_eqb n 0 (λ none. omega arith) in rw other refl

pub mark_of-decimal : (n : ℕ) → 0 < n → n < 2 ^ 64 → mark_of (codes ":" ++ decimal n) ≡ Ok n
unfolding after_colon
mark_of-decimal n some fits = rw (number_of-decimal n fits) (numbered-some n some)

pub dataref_of-decimal : (n : ℕ) → 0 < n → n < 2 ^ 64
    → dataref_of (codes ":" ++ decimal n) ≡ Ok (data_ref.Mark n)
unfolding after_colon
dataref_of-decimal n some fits = rw (number_of-decimal n fits, numbered-some n some) refl

-- No hexadecimal digit is a colon.
digit-colon : (d : ℕ) → d < 16 → slice_index lower_digits d ≡ 58 → ⊥
digit-colon d below is =
    let digit = IsDigits-lower_digits d below in
    let colon : None ≡ Some d = ap hex_digit_value (sym is) ∙ digit in cc

after_colon-encode_lower : (id : List ℕ) → IsBytes id → after_colon (encode_lower id) ≡ None
unfolding after_colon encode_with
after_colon-encode_lower [] bytes = refl
after_colon-encode_lower (byte ∷ rest) bytes =
    let fits : byte < 256 = bytes 0 in
    let below : byte / 16 < 16 = omega arith in
    let digit : ℕ = slice_index lower_digits (byte / 16) in
    let other : (digit == 58) ≡ false = ne_eqb digit 58 (digit-colon (byte / 16) below) in
    rw other refl

decode_sized-encode_lower : (id : List ℕ) → IsBytes id → length id ≡ 20
    → decode_sized (encode_lower id) 20 ≡ Ok id
decode_sized-encode_lower id bytes sized =
    let long : length (encode_lower id) ≡ 40 = omega (arith, length-encode_with lower_digits id) in
    rw long (decode_pairs-encode_with lower_digits IsDigits-lower_digits 0 id bytes)

pub dataref_of-encode_lower : (id : List ℕ) → IsBytes id → length id ≡ 20
    → dataref_of (encode_lower id) ≡ Ok (data_ref.Name id)
dataref_of-encode_lower id bytes sized =
    rw (after_colon-encode_lower id bytes, decode_sized-encode_lower id bytes sized) refl

-- Numerals, and the numbers that they write.
use Rattle.std.proofs.Common.{rules, arith, ◌≡◌, ◌<◌, ◌^◌, length, ℕ, true, List, Some, None, refl}
use Rattle.std.proofs.lemmas.Bool.{lt-ltb, le-leb}
use Rattle.std.proofs.lemmas.Fmt.{decimal_nonempty, digits_decimal, digits_value-decimal, length-decimal-le}
use Rattle.std.proofs.Common.{lit<}
use Rattle.std.proofs.lemmas.Grind.{common_steps}
use Rattle.std.proofs.lemmas.Str.Parse.{IsNumeralModel, numerals_by_value}
use Rattle.std.specs.Char.{is_ascii_digit}
use Rattle.std.specs.Fmt.{decimal}
use Rattle.std.specs.List.{list_all}
use Rattle.std.specs.Str.Parse.{digits_value}
use Rattle.numerals.specs.Numbers.{is_numeral, in_64_bits, number_of}

-- Texts of decimal digits, and the numbers that they write.
pub decimals : IsNumeralModel (λ ds. list_all is_ascii_digit ds ≡ true) (digits_value 10)
decimals = numerals_by_value (λ ds. list_all is_ascii_digit ds ≡ true) (search rules)

pub in_64_bits-yes : (n : ℕ) → n < 2 ^ 64 → in_64_bits n ≡ Some n
in_64_bits-yes n h = grind (arith, common_steps)

pub in_64_bits-no : (n : ℕ) → (n < 2 ^ 64 → ⊥) → in_64_bits n ≡ None
in_64_bits-no n h = grind (arith, common_steps)

-- A number's decimal digits are a numeral.
pub is_numeral-decimal : (n : ℕ) → n < 2 ^ 64 → is_numeral (decimal n) ≡ true
is_numeral-decimal n fits =
    let below : n < 10 ^ 20 = omega arith in
    let some = lt-ltb 0 (length (decimal n)) (decimal_nonempty n fits) in
    let short = le-leb (length (decimal n)) 20 (length-decimal-le 20 n (lit< tt) below fits) in
    let digits = digits_decimal decimals n fits in
    rw (some, short, digits) refl

-- A number's decimal digits write the number.
pub number_of-decimal : (n : ℕ) → n < 2 ^ 64 → number_of (decimal n) ≡ Some n
unfolding number_of
number_of-decimal n fits =
    rw (is_numeral-decimal n fits, digits_value-decimal decimals n fits) (in_64_bits-yes n fits)

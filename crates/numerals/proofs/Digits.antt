-- What decimal digits write, digit by digit.
use Rattle.std.proofs.Common.{arith, sym, ◌≡◌, ◌<◌, ◌≤◌, ◌^◌, ◌+◌, ◌*◌, ◌-◌, length, take, get_or, ℕ, Bool, true, false, cond, List, Option, Some, None, refl}
use Rattle.std.proofs.lemmas.Grind.{common_steps}
use Rattle.std.proofs.lemmas.Int.Digits.{digits_more, digits_value_more}
use Rattle.std.proofs.lemmas.Str.{digit_value_digit}
use Rattle.std.proofs.lemmas.Str.Parse.{digits_value-take-le}
use Rattle.std.specs.Char.{is_ascii_digit, digit_value}
use Rattle.std.specs.Int.{IsInRange}
use Rattle.std.specs.List.{list_all}
use Rattle.std.specs.Str.Parse.{AllDigits, digits_value}
use Rattle.numerals.specs.Numbers.{in_64_bits}
use Rattle.numerals.proofs.Numerals.{decimals, in_64_bits-yes, in_64_bits-no}

-- the number that a text writes if all its bytes are digits
abbrev pub digits_number : List ℕ → Option ℕ
digits_number text = cond (list_all is_ascii_digit text) (in_64_bits (digits_value 10 text)) None

in_range : (byte : ℕ) → is_ascii_digit byte ≡ true → IsInRange 48 57 byte
in_range byte is = grind (arith, common_steps)

-- one more digit
pub more : (text : List ℕ) (i value : ℕ) → i < length text → AllDigits 10 (take i text)
    → value ≡ digits_value 10 (take i text) → is_ascii_digit (get_or text i 0) ≡ true
    → AllDigits 10 (take (i + 1) text)
    × (value * 10 + (get_or text i 0 - 48) ≡ digits_value 10 (take (i + 1) text))
more text i value inside all is digit =
    let byte = get_or text i 0 in
    let worth : digit_value byte + 48 ≡ byte = digit_value_digit byte (in_range byte digit) in
    let range = in_range byte digit in (
      digits_more 10 text i inside all (omega (arith, worth, range)),
      rw (digits_value_more 10 text i inside, ← is) (omega (arith, worth)),
    )

neither : {X : Type 0} (b : Bool) (x : Option X) → x ≡ None → cond b x None ≡ None
neither true x none = none
neither false x none = refl

-- digits that write too large a number at the front
pub too_large : (text : List ℕ) (i : ℕ) → 2 ^ 64 ≤ digits_value 10 (take i text)
    → digits_number text ≡ None
too_large text i large =
    neither (list_all is_ascii_digit text) (in_64_bits (digits_value 10 text))
    (in_64_bits-no (digits_value 10 text)
    (λ below. omega (arith, large, below, digits_value-take-le 10 text i (omega arith))))

-- digits alone
pub all_digits : (text : List ℕ) (value : ℕ) → AllDigits 10 text → value ≡ digits_value 10 text
    → value < 2 ^ 64 → Some value ≡ digits_number text
all_digits text value all is below =
    rw (decimals.from text all, ← is) (sym (in_64_bits-yes value below))

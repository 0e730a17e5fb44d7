-- The number that the octal digits of a mode write.
use Rattle.std.proofs.Common.{◌≡◌, ◌≢◌, ℕ, ◌<◌, ◌≤◌, ◌+◌, ◌*◌, ◌-◌, ◌^◌, true, false, List, [], ◌∷◌, length, take, get_or, refl, sym, ap, subst, ◌∙◌, arith}
use Rattle.std.specs.List.{AllPass, list_all}
use Rattle.std.specs.Char.{digit_value}
use Rattle.std.specs.Int.{IsInRange}
use Rattle.std.specs.Str.Parse.{AllDigits, digits_value}
use Rattle.std.proofs.lemmas.Grind.{common_steps}
use Rattle.std.proofs.Math.Nat.{pow-le-pow_right}
use Rattle.std.proofs.lemmas.Bool.{and_parts, ltb-true}
use Rattle.std.proofs.lemmas.List.Sums.{AllPass-from_list_all, list_all-from_AllPass}
use Rattle.std.proofs.lemmas.Str.{digit_value_digit}
use Rattle.std.proofs.lemmas.Int.Digits.{digits_value_more, digits_value-lt}
use Rattle.std.proofs.lemmas.Str.Parse.{digits_value-take-le}
use Rattle.git_model.specs.Readable.{is_octal_digit, AreModeDigits}

pub octal_range : (byte : ℕ) → is_octal_digit byte ≡ true → IsInRange 48 55 byte
octal_range byte is = grind (arith, common_steps)

pub octal_tested : (digits : List ℕ) → digits ≢ [] → length digits ≤ 7
    → list_all is_octal_digit digits ≡ true → AreModeDigits digits
octal_tested digits some short all =
    record { not_empty = some; short = short; octal = AllPass-from_list_all is_octal_digit digits all }

pub octal_test : (digits : List ℕ) → AreModeDigits digits → list_all is_octal_digit digits ≡ true
octal_test digits is = list_all-from_AllPass is_octal_digit digits is.octal

all_digits : (digits : List ℕ) → list_all is_octal_digit digits ≡ true → AllDigits 8 digits
all_digits [] all = tt
all_digits (d ∷ ds) all =
    let parts = and_parts _ _ all in (ltb-true (digit_value d) 8 parts.0, all_digits ds parts.1)

small_power : (n : ℕ) → n ≤ 7 → 8 ^ n ≤ 2097152
small_power n h = pow-le-pow_right (omega arith) h

pub octal_small : (digits : List ℕ) (i : ℕ) → AreModeDigits digits
    → digits_value 8 (take i digits) < 2097152
octal_small digits i is =
    let whole = digits_value-lt 8 digits (all_digits digits (octal_test digits is)) in
    let power = small_power (length digits) is.short in
    let part = digits_value-take-le 8 digits i (omega arith) in
    omega (arith, whole, power, part)

pub next_digit : (digits : List ℕ) (i number : ℕ) → i < length digits → AreModeDigits digits
    → number ≡ digits_value 8 (take i digits)
    → number * 8 + (get_or digits i 0 - 48) ≡ digits_value 8 (take (i + 1) digits)
next_digit digits i number inside is n =
    let byte = get_or digits i 0 in
    let range = octal_range byte (is.octal i 0 inside) in
    let worth : digit_value byte + 48 ≡ byte = digit_value_digit byte (omega (arith, range)) in
    let same : byte - 48 ≡ digit_value byte = omega (arith, worth) in
    rw (n, same) (sym (digits_value_more 8 digits i inside))

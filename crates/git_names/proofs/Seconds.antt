-- The seconds of a date are the number that its first digits write.
use Rattle.std.proofs.Common.{◌≡◌, ℕ, ◌^◌, List, length, take, drop, Bool, true, false, ◌&&◌, cond, nat_lt, nat_le, Option, None, Some, Ok, Err, refl, sym, ap, ◌∙◌}
use Rattle.std.specs.Option.{is_some}
use Rattle.std.specs.List.{prefix_len, list_all}
use Rattle.std.specs.Char.{is_ascii_digit}
use Rattle.std.specs.Str.Parse.{digits_value}
use Rattle.git_model.specs.Ident.{written_ident}
use Rattle.git_model.specs.IdentReading.{are_seconds, is_spaced_offset, is_date, with_date, seconds_at}
use Rattle.git_model.proofs.Fronts.{front_passes}
use Rattle.numerals.specs.Numbers.{number_of}

-- Digits are seconds where they write a number.
is_some-tests : (a b c : Bool) (v : ℕ)
    → is_some (cond (a && b && true) (cond c (Some v) None) None) ≡ (a && b && c)
is_some-tests true true true v = refl
is_some-tests true true false v = refl
is_some-tests true false c v = refl
is_some-tests false b c v = refl

is_some-number : (digits : List ℕ) → list_all is_ascii_digit digits ≡ true
    → is_some (number_of digits) ≡ are_seconds digits
unfolding number_of
is_some-number digits all =
    rw all (is_some-tests (nat_lt 0 (length digits)) (nat_le (length digits) 20) (nat_lt (digits_value 10 digits) (2 ^ 64)) (digits_value 10 digits))

pub are_seconds-read : (text : List ℕ)
    → is_some (number_of (take (prefix_len is_ascii_digit text) text))
    ≡ are_seconds (take (prefix_len is_ascii_digit text) text)
are_seconds-read text =
    is_some-number (take (prefix_len is_ascii_digit text) text) (front_passes is_ascii_digit text)

-- And then it is their value.
value-tests : (a b c : Bool) (v : ℕ) → (a && b && c) ≡ true
    → cond (a && b && true) (cond c (Some v) None) None ≡ Some v
value-tests true true true v e = refl
value-tests true true false v e = cc
value-tests true false c v e = cc
value-tests false b c v e = cc

number-value : (digits : List ℕ) → list_all is_ascii_digit digits ≡ true → are_seconds digits ≡ true
    → number_of digits ≡ Some (digits_value 10 digits)
unfolding number_of
number-value digits all well =
    rw all (value-tests (nat_lt 0 (length digits)) (nat_le (length digits) 20) (nat_lt (digits_value 10 digits) (2 ^ 64)) (digits_value 10 digits) well)

and-first : (a b : Bool) → (a && b) ≡ true → a ≡ true
and-first true b e = refl
and-first false b e = e

pub seconds-read : (date : List ℕ) → is_date date ≡ true
    → number_of (take (prefix_len is_ascii_digit date) date) ≡ Some (seconds_at (Some date))
unfolding is_date
seconds-read date well =
    number-value (take (prefix_len is_ascii_digit date) date) (front_passes is_ascii_digit date)
    (and-first _ _ well)

-- What gives an ident after a person is a date.
dated-tests : (b : Bool) (text : List ℕ) {E : Type 0} (e : E) → cond b (Ok text) (Err e) ≡ Ok text
    → b ≡ true
dated-tests true text e well = refl
dated-tests false text e well = cc

pub with_date-Ok : (text rest : List ℕ) → with_date text (Some rest) ≡ Ok (written_ident text)
    → is_date rest ≡ true
with_date-Ok text rest well = dated-tests (is_date rest) (written_ident text) _ well

-- A date has seconds and what stands after them.
pub is_date-some : (text : List ℕ) (o : Option ℕ) → is_some o ≡ true
    → o ≡ number_of (take (prefix_len is_ascii_digit text) text)
    → is_spaced_offset (drop (prefix_len is_ascii_digit text) text) ≡ is_date text
unfolding is_date
is_date-some text o some read =
    ap (λ (b : Bool). b && is_spaced_offset (drop (prefix_len is_ascii_digit text) text))
    (sym some ∙ ap (λ (n : Option ℕ). is_some n) read ∙ are_seconds-read text)

pub is_date-none : (text : List ℕ) (o : Option ℕ) → is_some o ≡ false
    → o ≡ number_of (take (prefix_len is_ascii_digit text) text)
    → false ≡ is_date text
unfolding is_date
is_date-none text o none read =
    ap (λ (b : Bool). b && is_spaced_offset (drop (prefix_len is_ascii_digit text) text))
    (sym none ∙ ap (λ (n : Option ℕ). is_some n) read ∙ are_seconds-read text)

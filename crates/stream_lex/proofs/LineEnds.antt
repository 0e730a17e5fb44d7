-- Where the first line end stands.
use Rattle.std.proofs.Common.{◌≡◌, ℕ, ◌+◌, ◌-◌, ◌<◌, ◌≤◌, Bool, true, false, not, cond, List, ◌++◌, length, drop, get_or, None, Some, arith, refl, ap, ◌∙◌, length-drop, ne_eqb, eq-eqb}
use Rattle.std.proofs.lemmas.Bool.{cases_lt}
use mathlib.Core.Logic.{⊎_elim}
use Rattle.std.proofs.lemmas.List.Sums.{prefix_len_is, prefix_len-le-length}
use Rattle.std.proofs.lemmas.List.Folds.{prefix_len-append}
use Rattle.memchr.specs.Find.{IsFirstByte, is_byte}
use Rattle.stream_lex.specs.Headers.{is_line_end, line_length, HasNoLineEnd}
use Rattle.stream_lex.specs.Search.{FindsLineEnd}

goes_on : (b : Bool) → (b ≡ true → ⊥) → not b ≡ true
goes_on true h = absurd (h refl)
goes_on false h = refl

stops : (b : Bool) → b ≡ true → not b ≡ false
stops b e = ap not e

-- what the search for a byte finds is the first line end
pub finds_none : (bytes : List ℕ) → IsFirstByte (is_byte 10) bytes None → HasNoLineEnd bytes
finds_none bytes h = prefix_len_is (λ b. not (is_line_end b)) bytes (length bytes) 0 (omega arith) (λ k below. goes_on (is_line_end (get_or bytes k 0)) (h k (omega arith) below)) (λ below. absurd (omega arith))

pub finds_some : (bytes : List ℕ) (at : ℕ) → IsFirstByte (is_byte 10) bytes (Some at)
    → line_length bytes ≡ at
finds_some bytes at h = prefix_len_is (λ b. not (is_line_end b)) bytes at 0 (omega (arith, h.0.high)) (λ k below. goes_on (is_line_end (get_or bytes k 0)) (h.0.before k (omega arith) below)) (λ below. stops (is_line_end (get_or bytes at 0)) h.1)

-- the same in the bytes after those that were seen
pub finds_none_after : (bytes fresh : List ℕ) (seen : ℕ) → fresh ≡ drop seen bytes
    → IsFirstByte (is_byte 10) fresh None → FindsLineEnd bytes seen None
finds_none_after bytes fresh seen e h = rw (← e) (finds_none fresh h)

pub finds_some_after : (bytes fresh : List ℕ) (seen at : ℕ) → fresh ≡ drop seen bytes
    → seen ≤ length bytes → IsFirstByte (is_byte 10) fresh (Some at)
    → FindsLineEnd bytes seen (Some (seen + at))
finds_some_after bytes fresh seen at e within h =
    let long : length fresh ≡ length bytes - seen = ap length e ∙ length-drop seen bytes in
    record {
      beyond = omega arith;
      inside = omega (arith, h.0.high);
      first = rw (← e) (omega (arith, finds_some fresh at h));
    }

-- the first line end stays the first one, whatever comes after it
pub line_length-append_found : (xs ys : List ℕ) → line_length xs < length xs
    → line_length (xs ++ ys) ≡ line_length xs
line_length-append_found xs ys found =
    prefix_len-append (λ b. not (is_line_end b)) xs ys ∙ ap (λ e. cond e (length xs + line_length ys) (line_length xs)) (ne_eqb (line_length xs) (length xs) (λ e. omega arith))

pub line_length-append_none : (xs ys : List ℕ) → HasNoLineEnd xs
    → line_length (xs ++ ys) ≡ length xs + line_length ys
line_length-append_none xs ys none =
    prefix_len-append (λ b. not (is_line_end b)) xs ys ∙ ap (λ e. cond e (length xs + line_length ys) (line_length xs)) (eq-eqb (line_length xs) (length xs) none)

pub line_length-le : (xs : List ℕ) → line_length xs ≤ length xs
line_length-le xs = prefix_len-le-length (λ b. not (is_line_end b)) xs

-- what comes after moves no line end to the front
pub line_length-grows : (xs ys : List ℕ) → line_length xs ≤ line_length (xs ++ ys)
line_length-grows xs ys = ⊎_elim
    (λ found. omega (arith, line_length-append_found xs ys found))
    (λ none. let all : HasNoLineEnd xs = omega (arith, line_length-le xs) in omega (arith, line_length-append_none xs ys all))
    (cases_lt (line_length xs) (length xs))

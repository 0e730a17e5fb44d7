-- The message that a commit's contents hold, found line after line.
use Rattle.std.proofs.Common.{◌≡◌, ◌≢◌, ℕ, ◌+◌, ◌<◌, ◌≤◌, ◌==◌, Bool, true, false, not, cond, List, [], ◌∷◌, length, drop, refl, sym, ap, ◌∙◌, None, Some, All, position, arith}
use Rattle.std.specs.Prelude.{sum_by, take_while}
use Rattle.std.specs.List.{position_or_len, before_first, after_first, slice_split}
use Rattle.std.specs.Str.{bytes_eq}
use Rattle.std.proofs.lemmas.Bool.{cond-true, cond-false}
use Rattle.std.proofs.lemmas.Grind.{common_steps}
use Rattle.std.proofs.lemmas.List.{drop_all, drop-drop, length-take}
use Rattle.std.proofs.lemmas.List.Elements.{All-from_get_or}
use Rattle.std.proofs.lemmas.List.Splits.{slice_split_first, slice_split_none}
use Rattle.std.proofs.lemmas.List.Sums.{sum_by-cons, take_while-cons, fails_before_first}
use Rattle.git_model.specs.CommitReading.{commit_read}
use Rattle.git_model.specs.HeaderReading.{header_lines, message_of}

abbrev ends_line : ℕ → Bool
ends_line byte = byte == 10

abbrev is_some_text : List ℕ → Bool
is_some_text text = not (bytes_eq text [])

abbrev size_of : List ℕ → ℕ
size_of text = length text + 1

-- ---- the first line end

abbrev line_end : List ℕ → ℕ
line_end xs = position_or_len ends_line xs

pub found_at : (xs : List ℕ) (at : ℕ) → Some at ≡ position ends_line xs
    → (line_end xs ≡ at) × (at < length xs)
found_at xs at e = (grind (arith, common_steps), grind (arith, common_steps))

found_nowhere : (xs : List ℕ) → None ≡ position ends_line xs → length xs ≤ line_end xs
found_nowhere xs e = grind (arith, common_steps)

-- ---- the lines of the header

some_is : (text : List ℕ) (size : ℕ) → length text ≡ size → size ≢ 0 → is_some_text text ≡ true
some_is [] size e some = absurd (some (sym e))
some_is (b ∷ bs) size e some = refl

none_is : (text : List ℕ) → length text ≡ 0 → is_some_text text ≡ false
none_is [] e = refl
none_is (b ∷ bs) e = absurd (omega arith)

line_size : (xs : List ℕ) → line_end xs < length xs → length (before_first ends_line xs) ≡ line_end xs
line_size xs within = omega (arith, length-take (line_end xs) xs)

header_step : (xs : List ℕ) → line_end xs < length xs → header_lines xs
    ≡ cond (is_some_text (before_first ends_line xs)) (before_first ends_line xs ∷ header_lines (after_first ends_line xs)) []
unfolding header_lines
header_step xs within =
    ap (take_while is_some_text) (slice_split_first ends_line xs 0 within)
    ∙ take_while-cons is_some_text (before_first ends_line xs)
    (slice_split ends_line (after_first ends_line xs))

header_goes_on : (xs : List ℕ) → line_end xs < length xs → line_end xs ≢ 0
    → header_lines xs ≡ before_first ends_line xs ∷ header_lines (after_first ends_line xs)
header_goes_on xs within some =
    header_step xs within ∙ cond-true (is_some_text (before_first ends_line xs)) _ _
    (some_is (before_first ends_line xs) (line_end xs) (line_size xs within) some)

header_ends : (xs : List ℕ) → line_end xs < length xs → line_end xs ≡ 0 → header_lines xs ≡ []
header_ends xs within none =
    header_step xs within ∙ cond-false (is_some_text (before_first ends_line xs)) _ _
    (none_is (before_first ends_line xs) (line_size xs within ∙ none))

-- a text with no line end is the one line, or none
one_line : (xs : List ℕ) → length xs ≤ line_end xs → length xs ≤ sum_by size_of (header_lines xs)
unfolding header_lines
one_line [] within = omega arith
one_line (b ∷ bs) within =
    let xs : List ℕ = b ∷ bs in
    let none : All (λ x. ends_line x ≡ false) xs =
    All-from_get_or (λ x. ends_line x ≡ false) xs 0
    (λ k below. fails_before_first ends_line xs k 0 (omega (arith, below, within))) in
    rw (slice_split_none ends_line xs none) (omega arith)

-- ---- the message

pub message_read : (contents : List ℕ) → (commit_read contents).message ≡ message_of contents
unfolding commit_read
message_read contents = refl

pub past_line : (xs : List ℕ) (at : ℕ) → Some at ≡ position ends_line xs → at ≢ 0
    → message_of (drop (at + 1) xs) ≡ message_of xs
unfolding message_of
past_line xs at e some =
    let found = found_at xs at e in
    let rest : List ℕ = after_first ends_line xs in
    let within : line_end xs < length xs = omega (arith, found.0, found.1) in
    let more = header_goes_on xs within (λ z. some (sym found.0 ∙ z)) in
    let total : sum_by size_of (header_lines xs) ≡ (line_end xs + 1) + sum_by size_of (header_lines rest) =
    ap (sum_by size_of) more ∙ sum_by-cons size_of (before_first ends_line xs) (header_lines rest)
    ∙ ap (λ n. (n + 1) + sum_by size_of (header_lines rest)) (line_size xs within) in
    ap (λ n. message_of (drop (n + 1) xs)) (sym found.0)
    ∙ drop-drop (sum_by size_of (header_lines rest) + 1) (line_end xs + 1) xs
    ∙ ap (λ n. drop n xs) {x = (line_end xs + 1) + (sum_by size_of (header_lines rest) + 1)} {y = sum_by size_of (header_lines xs) + 1} (omega (arith, total))

pub past_empty_line : (xs : List ℕ) → Some 0 ≡ position ends_line xs → drop 1 xs ≡ message_of xs
unfolding message_of
past_empty_line xs e =
    let found = found_at xs 0 e in
    rw (header_ends xs (omega (arith, found.0, found.1)) found.0) refl

pub past_all : (xs : List ℕ) → None ≡ position ends_line xs → [] ≡ message_of xs
unfolding message_of
past_all xs e =
    sym (drop_all (sum_by size_of (header_lines xs) + 1) xs (omega (arith, one_line xs (found_nowhere xs e))))

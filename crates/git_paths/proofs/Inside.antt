-- The steps of reading what stands between quotes.
use Rattle.std.proofs.Common.{◌≡◌, ℕ, ◌-◌, ◌<◌, ◌≤◌, true, false, List, [], ◌∷◌, ◌++◌, length, get_or, take, drop, length-drop, Option, Some, None, refl, sym, ap, ◌∙◌, append_assoc, ◌≢◌, arith}
use Rattle.std.proofs.lemmas.List.{take_all, append-nil}
use Rattle.std.proofs.lemmas.Bool.{ne_eqb}
use Rattle.git_paths.specs.Quoting.{byte_of_letter, octal_value}
use Rattle.git_paths.specs.Reading.{before, are_octal, unquoted, escaped, octals}

-- fewer than two bytes hold no further octal digits
pub octals_short : (x : ℕ) (text : List ℕ) → length text < 2 → octals x text ≡ None
unfolding octals
octals_short x [] short = refl
octals_short x (y ∷ []) short = refl
octals_short x (y ∷ z ∷ text) short = absurd (omega arith)

-- two bytes that are no octal digits of a byte
pub octals_fail : (x : ℕ) (text : List ℕ) → 2 ≤ length text
    → are_octal x (get_or text 0 0) (get_or text 1 0) ≡ false → octals x text ≡ None
unfolding octals
octals_fail x [] long test = refl
octals_fail x (y ∷ []) long test = refl
octals_fail x (y ∷ z ∷ text) long test = rw test refl

-- two that are
pub octals_give : (x : ℕ) (text : List ℕ) (b : ℕ) → 2 ≤ length text
    → are_octal x (get_or text 0 0) (get_or text 1 0) ≡ true
    → b ≡ octal_value x (get_or text 0 0) (get_or text 1 0)
    → octals x text ≡ before b (unquoted (drop 2 text))
unfolding octals
octals_give x [] b long test is = absurd (omega arith)
octals_give x (y ∷ []) b long test is = absurd (omega arith)
octals_give x (y ∷ z ∷ text) b long test is = rw (test, is) refl

-- what a pattern leaves of a list after its first n
pub rest_of : (n : ℕ) (text : List ℕ) → take (length text - n) (drop n text) ≡ drop n text
rest_of n text = take_all (length text - n) (drop n text) (omega (arith, length-drop n text))

-- a list that is there, by its first and the others
pub first_and_rest : (text : List ℕ) → 1 ≤ length text → text ≡ get_or text 0 0 ∷ drop 1 text
first_and_rest [] some = absurd (omega arith)
first_and_rest (b ∷ text) some = refl

-- after a backslash: nothing, a letter, or another byte
pub escaped_nothing : (text : List ℕ) → length text < 1 → escaped text ≡ None
unfolding escaped
escaped_nothing [] none = refl
escaped_nothing (c ∷ text) none = absurd (omega arith)

pub escaped_letter : (text : List ℕ) (b : ℕ) → 1 ≤ length text
    → byte_of_letter (get_or text 0 0) ≡ Some b → escaped text ≡ before b (unquoted (drop 1 text))
unfolding escaped
escaped_letter [] b some is = absurd (omega arith)
escaped_letter (c ∷ text) b some is = rw is refl

pub escaped_octals : (text : List ℕ) → 1 ≤ length text → byte_of_letter (get_or text 0 0) ≡ None
    → escaped text ≡ octals (get_or text 0 0) (drop 1 text)
unfolding escaped
escaped_octals [] some is = absurd (omega arith)
escaped_octals (c ∷ text) some is = rw is refl

-- between quotes: the closing quote, a backslash, or another byte
pub unquoted_quote : (text : List ℕ) → unquoted (34 ∷ text) ≡ Some ([], text)
unfolding unquoted
unquoted_quote text = refl

pub unquoted_escape : (text : List ℕ) → unquoted (92 ∷ text) ≡ escaped text
unfolding unquoted
unquoted_escape text = refl

pub unquoted_itself : (b : ℕ) (text : List ℕ) → b ≢ 34 → b ≢ 92
    → unquoted (b ∷ text) ≡ before b (unquoted text)
unfolding unquoted
unquoted_itself b text no_quote no_backslash =
    rw (ne_eqb b 34 no_quote, ne_eqb b 92 no_backslash) refl

-- ---- the loop

-- what was read so far before what is still read
abbrev pub with_front : List ℕ → Option (List ℕ × List ℕ) → Option (List ℕ × List ℕ)
with_front front None = None
with_front front (Some (bytes, rest)) = Some (front ++ bytes, rest)

with_front-before : (front : List ℕ) (b : ℕ) (read : Option (List ℕ × List ℕ))
    → with_front front (before b read) ≡ with_front (front ++ b ∷ []) read
with_front-before front b None = refl
with_front-before front b (Some (bytes, rest)) =
    ap (λ (all : List ℕ). Some (all, rest)) (sym (append_assoc front (b ∷ []) bytes))

pub with_front-nil : (read : Option (List ℕ × List ℕ)) → with_front [] read ≡ read
with_front-nil None = refl
with_front-nil (Some (bytes, rest)) = refl

pub goes_on : (front : List ℕ) (b : ℕ) (now after all : List ℕ)
    → with_front front (unquoted now) ≡ unquoted all → unquoted now ≡ before b (unquoted after)
    → with_front (front ++ b ∷ []) (unquoted after) ≡ unquoted all
goes_on front b now after all so_far step =
    sym (with_front-before front b (unquoted after)) ∙ ap (with_front front) (sym step) ∙ so_far

pub closes : (front now rest all : List ℕ) → with_front front (unquoted now) ≡ unquoted all
    → unquoted now ≡ Some ([], rest) → unquoted all ≡ Some (front, rest)
closes front now rest all so_far step =
    sym so_far ∙ ap (with_front front) step
    ∙ ap (λ (bytes : List ℕ). Some (bytes, rest)) (append-nil front)

pub fails : (front now all : List ℕ) → with_front front (unquoted now) ≡ unquoted all
    → unquoted now ≡ None → unquoted all ≡ None
fails front now all so_far step = sym so_far ∙ ap (with_front front) step

-- at the closing quote, and where the text has ended
pub unquoted_closed : (now : List ℕ) → 1 ≤ length now → get_or now 0 0 ≡ 34
    → unquoted now ≡ Some ([], drop 1 now)
unquoted_closed now some quote =
    ap unquoted (first_and_rest now some ∙ ap (λ (b : ℕ). b ∷ drop 1 now) quote)
    ∙ unquoted_quote (drop 1 now)

pub unquoted_nothing : (now : List ℕ) → length now < 1 → unquoted now ≡ None
unfolding unquoted
unquoted_nothing [] none = refl
unquoted_nothing (b ∷ now) none = absurd (omega arith)

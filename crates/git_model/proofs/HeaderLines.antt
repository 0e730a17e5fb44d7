-- Header lines, an empty one and a message are read back.
use Rattle.std.proofs.Common.{◌≡◌, ◌≢◌, ℕ, ◌+◌, ◌==◌, Bool, true, false, not, List, [], ◌∷◌, ◌++◌, length, drop, refl, sym, ap, ◌∙◌, append_assoc, arith}
use Rattle.std.specs.Prelude.{filter_map, sum_by, take_while}
use Rattle.std.specs.List.{AllByRecursion, flat_map, list_all, slice_split}
use Rattle.std.specs.Str.{bytes_eq}
use Rattle.std.proofs.lemmas.Bool.{ne_eqb, cond-true}
use Rattle.std.proofs.lemmas.List.{length-append, drop_at}
use Rattle.std.proofs.lemmas.List.Elements.{All-weaker}
use Rattle.std.proofs.lemmas.List.Splits.{slice_split_at}
use Rattle.std.proofs.lemmas.List.Sums.{sum_by-cons, take_while-cons}
use Rattle.hex.specs.Hex.{encode_lower}
use Rattle.git_model.specs.ObjectName.{IsObjectName}
use Rattle.git_model.specs.HeaderReading.{header_lines, after_word, values_of, message_of, id_or_none, id_of_digits}
use Rattle.git_model.proofs.OneLine.{IsOneLine, name_decodes, word_one_line}

-- A header line has text in it, and no line end.
pub record IsLine (text : List ℕ) : Type 0 where
  pub some : text ≢ []
  pub one_line : IsOneLine text

abbrev ends_line : ℕ → Bool
ends_line byte = byte == 10

abbrev is_some_text : List ℕ → Bool
is_some_text text = not (bytes_eq text [])

abbrev pub ended : List ℕ → List ℕ
ended text = text ++ 10 ∷ []

abbrev pub lines_text : List (List ℕ) → List ℕ → List ℕ
lines_text texts message = flat_map ended texts ++ 10 ∷ message

-- a line in front of others
pub first_line_text : (t : List ℕ) (ts : List (List ℕ)) (m : List ℕ)
    → lines_text (t ∷ ts) m ≡ ended t ++ lines_text ts m
first_line_text t ts m = append_assoc (ended t) (flat_map ended ts) (10 ∷ m)

regroup : (t : List ℕ) (ts : List (List ℕ)) (m : List ℕ)
    → lines_text (t ∷ ts) m ≡ t ++ 10 ∷ lines_text ts m
regroup t ts m = first_line_text t ts m ∙ append_assoc t (10 ∷ []) (lines_text ts m)

one_part : (t : List ℕ) (ts : List (List ℕ)) (m : List ℕ) → IsOneLine t
    → slice_split ends_line (lines_text (t ∷ ts) m) ≡ t ∷ slice_split ends_line (lines_text ts m)
one_part t ts m is =
    ap (slice_split ends_line) (regroup t ts m)
    ∙ slice_split_at ends_line t 10 (lines_text ts m)
    (All-weaker (λ (b : ℕ). b ≢ 10) (λ b. ends_line b ≡ false) (λ b ne. ne_eqb b 10 ne) t is) refl

some_is : (t : List ℕ) → t ≢ [] → is_some_text t ≡ true
some_is [] ne = absurd (ne refl)
some_is (b ∷ bs) ne = refl

pub lines_back : (ts : List (List ℕ)) (m : List ℕ) → AllByRecursion IsLine ts
    → header_lines (lines_text ts m) ≡ ts
unfolding header_lines
lines_back [] m h = refl
lines_back (t ∷ ts) m h =
    ap (take_while is_some_text) (one_part t ts m h.0.one_line)
    ∙ take_while-cons is_some_text t (slice_split ends_line (lines_text ts m))
    ∙ cond-true (is_some_text t) _ _ (some_is t h.0.some)
    ∙ ap (λ (l : List (List ℕ)). t ∷ l) (lines_back ts m h.1)

abbrev size_of : List ℕ → ℕ
size_of text = length text + 1

size_is : (ts : List (List ℕ)) → length (flat_map ended ts) ≡ sum_by size_of ts
size_is [] = refl
size_is (t ∷ ts) =
    let whole = length-append (ended t) (flat_map ended ts) in
    let first = length-append t (10 ∷ []) in
    let rest = size_is ts in
    let sum = sum_by-cons size_of t ts in
    omega arith

message_at : (ts : List (List ℕ)) (m : List ℕ) → drop (sum_by size_of ts + 1) (lines_text ts m) ≡ m
message_at ts m =
    let size : length
    (flat_map ended ts ++ 10 ∷ []) ≡ sum_by size_of ts + 1 = let a = length-append
    (flat_map ended ts) (10 ∷ []) in let b = size_is ts in omega arith in
    ap (drop (sum_by size_of ts + 1)) (sym (append_assoc (flat_map ended ts) (10 ∷ []) m))
    ∙ drop_at (flat_map ended ts ++ 10 ∷ []) m (sum_by size_of ts + 1) size

pub message_back : (ts : List (List ℕ)) (m : List ℕ) → AllByRecursion IsLine ts
    → message_of (lines_text ts m) ≡ m
unfolding message_of
message_back ts m h =
    ap (λ (l : List (List ℕ)). drop (sum_by size_of l + 1) (lines_text ts m)) (lines_back ts m h)
    ∙ message_at ts m

pub values_back : (word : List ℕ) (ts : List (List ℕ)) (m : List ℕ) → AllByRecursion IsLine ts
    → values_of word (lines_text ts m) ≡ filter_map (after_word word) ts
unfolding values_of
values_back word ts m h = ap (filter_map (after_word word)) (lines_back ts m h)

-- a word and a text on one line
pub worded : (word text : List ℕ) → word ≢ [] → list_all (λ byte. not (byte == 10)) word ≡ true
    → IsOneLine text → IsLine (word ++ text)
worded [] text some plain is = absurd (some refl)
worded (b ∷ word) text some plain is =
    record { some = λ e. cc e; one_line = word_one_line (b ∷ word) text plain is }

-- the names that digits give
pub named_back : (id : List ℕ) → IsObjectName id → id_of_digits (encode_lower id) ≡ id
named_back id is = ap id_or_none (name_decodes id is)

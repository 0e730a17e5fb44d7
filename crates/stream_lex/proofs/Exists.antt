-- All bytes have a reading.
use Rattle.std.proofs.Common.{◌≡◌, ◌≢◌, ℕ, zero, suc, ◌+◌, ◌<◌, ◌≤◌, true, false, ◌⊎◌, inl, inr, List, [], ◌∷◌, ◌++◌, length, take, drop, arith, refl, sym, ap, ◌∙◌, subst, length-append, length-drop, append_assoc, eqb-true, eq-eqb}
use Rattle.std.specs.Str.{bytes_eq}
use Rattle.std.proofs.lemmas.Bool.{cases_lt, false≢true}
use Rattle.std.proofs.lemmas.Slice.Eq.{bytes_eq-Decides}
use Rattle.std.proofs.lemmas.List.{take-append-drop, take-take, length-take-le, append-nil, nil_from_length, take_all, drop_all}
use mathlib.Core.Logic.{⊎_elim}
use Rattle.stream_lex.specs.declared.header.LineKind.{LineKind}
use Rattle.stream_lex.specs.declared.header.LineKind.TheVariants.{Empty, Comment, Counted, Delimited, BadHeader, Other}
use Rattle.stream_lex.specs.declared.fault.Fault.TheVariants.{LineTooLong, BadData, Limit}
use Rattle.stream_lex.specs.Items.{Item, Line, Data, Blank, Tail, Rest, Failed}
use Rattle.stream_lex.specs.Headers.{longest_line, largest_data, is_line_end, line_length, HasNoLineEnd, IsLine, kind_of, delimiter_of}
use Rattle.stream_lex.specs.Reads.{OtherLines, no_lines, one_more, IsData, counted, delimited, counted_so_far, delimited_so_far, counted_too_large, delimited_too_large, nothing_left, unfinished_line, line_too_long, bad_header, unfinished_data, data_too_large, comment, blank_line, line, line_end as skipped_line_end, other_byte, Reads, no_item, whole_line, data_at_end, data_and_more}
use Rattle.stream_lex.proofs.Cases.{by_cases}
use Rattle.stream_lex.proofs.LineEnds.{line_length-le}
use Rattle.stream_lex.proofs.LineKinds.{kind-empty}
use Rattle.stream_lex.proofs.Delimiters.{none_in-take, none_in_line, line_split}

-- The bytes have a reading.
abbrev pub Has : List ℕ → Type 0
Has bytes = (items : List Item) × (tail : Tail) × Reads bytes items tail

-- Bytes up to the first delimiter line, if there is one.
data Parts (delimiter : List ℕ) : List ℕ → Type 0 where
  no_delimiter : (lines text : List ℕ) → OtherLines delimiter lines → HasNoLineEnd text → Parts delimiter (lines ++ text)
  delimiter_line : (lines remaining : List ℕ) → OtherLines delimiter lines → Parts delimiter (lines ++ (delimiter ++ 10 ∷ remaining))

one_line_more : (delimiter text : List ℕ) {rest : List ℕ} → HasNoLineEnd text → text ≢ delimiter
    → Parts delimiter rest → Parts delimiter (text ++ 10 ∷ rest)
one_line_more delimiter text none other (no_delimiter lines last others last_none) =
    subst (λ (l : List ℕ). Parts delimiter l) (append_assoc text (10 ∷ lines) last) (no_delimiter (text ++ 10 ∷ lines) last (one_more text lines none other others) last_none)
one_line_more delimiter text none other (delimiter_line lines remaining others) =
    subst (λ (l : List ℕ). Parts delimiter l) (append_assoc text (10 ∷ lines) (delimiter ++ 10 ∷ remaining)) (delimiter_line (text ++ 10 ∷ lines) remaining (one_more text lines none other others))

parts : (n : ℕ) (delimiter bytes : List ℕ) → length bytes ≤ n → Parts delimiter bytes
parts zero delimiter bytes short =
    subst (λ (l : List ℕ). Parts delimiter l) (sym (nil_from_length bytes (omega arith))) (no_delimiter [] [] no_lines refl)
parts (suc n) delimiter bytes short = ⊎_elim
    (λ found.
    let end = line_length bytes in
    let text = take end bytes in
    let rest = drop (end + 1) bytes in
    let split : bytes ≡ text ++ 10 ∷ rest = line_split bytes end refl found in
    let later : Parts delimiter rest = parts n delimiter rest (omega (arith, length-drop (end + 1) bytes)) in
    subst (λ (l : List ℕ). Parts delimiter l) (sym split)
    (by_cases (bytes_eq text delimiter)
    (λ same. subst (λ (l : List ℕ). Parts delimiter (l ++ 10 ∷ rest)) (sym ((bytes_eq-Decides text delimiter).0 same)) (delimiter_line [] rest no_lines))
    (λ apart. one_line_more delimiter text (none_in_line bytes) (λ same. false≢true (sym apart ∙ (bytes_eq-Decides text delimiter).1 same)) later)))
    (λ none. no_delimiter [] bytes no_lines (omega (arith, line_length-le bytes)))
    (cases_lt (line_length bytes) (length bytes))

-- a data, and what stands after it
after_data : {text raw : List ℕ} → IsData text raw → (rest : List ℕ)
    → ((later : List ℕ) → length later ≤ length rest → Has later) → Has (text ++ rest)
after_data {text = text} {raw = raw} is [] later =
    subst Has (sym (append-nil text)) (Data raw ∷ [], Rest true [], data_at_end text raw is)
after_data {text = text} {raw = raw} is (byte ∷ rest) later = by_cases (is_line_end byte)
    (λ ends.
    let had = later rest (omega arith) in
    subst (λ (b : ℕ). Has (text ++ b ∷ rest)) (sym (eqb-true byte 10 ends)) (Data raw ∷ had.0, had.1, data_and_more text raw (10 ∷ rest) rest is (skipped_line_end rest) had.2))
    (λ other.
    let had = later (byte ∷ rest) (omega arith) in
    (Data raw ∷ had.0, had.1, data_and_more text raw (byte ∷ rest) (byte ∷ rest) is (other_byte byte rest (λ e. false≢true (sym other ∙ eq-eqb byte 10 e))) had.2))

-- a counted data
counted_has : (header rest : List ℕ) (size : ℕ) → IsLine header → kind_of header ≡ Counted size
    → ((later : List ℕ) → length later ≤ length rest → Has later) → Has (header ++ 10 ∷ rest)
counted_has header rest size is kind later = ⊎_elim
    (λ large. subst Has (append_assoc header (10 ∷ []) rest) ([], Failed Limit, no_item (data_too_large (header ++ 10 ∷ []) rest (counted_too_large header size is kind large))))
    (λ small. ⊎_elim
    (λ short. ([], Rest false (header ++ 10 ∷ rest), no_item (unfinished_data (header ++ 10 ∷ rest) (counted_so_far header rest size is kind small short))))
    (λ whole.
    let raw = take size rest in
    let long : length raw ≡ size = length-take-le size rest whole in
    let data_is : IsData (header ++ 10 ∷ raw) raw = counted header raw is (kind ∙ ap Counted (sym long)) (omega arith) in
    let joined : (header ++ 10 ∷ raw) ++ drop size rest ≡ header ++ 10 ∷ rest = append_assoc header (10 ∷ raw) (drop size rest) ∙ ap (λ l. header ++ 10 ∷ l) (take-append-drop size rest) in
    subst Has joined (after_data data_is (drop size rest) (λ l short. later l (omega (arith, length-drop size rest)))))
    (cases_lt (length rest) size))
    (cases_lt largest_data size)

-- a delimited data, of which the first bytes are looked at
delimited_has : (header : List ℕ) {front : List ℕ} (back : List ℕ) → IsLine header
    → kind_of header ≡ Delimited → Parts (delimiter_of header) front
    → ((length front < largest_data + length (delimiter_of header) + 1) × (back ≡ [])) ⊎ (length front ≡ largest_data + length (delimiter_of header) + 1)
    → ((later : List ℕ) → length later ≤ length (front ++ back) → Has later)
    → Has (header ++ 10 ∷ (front ++ back))
delimited_has header back is kind (no_delimiter lines text others none) enough later = ⊎_elim
    (λ short.
    subst (λ (l : List ℕ). Has (header ++ 10 ∷ l)) (sym (append-nil (lines ++ text)) ∙ ap (λ l. (lines ++ text) ++ l) (sym short.1))
    ([], Rest false (header ++ 10 ∷ (lines ++ text)), no_item (unfinished_data (header ++ 10 ∷ (lines ++ text)) (delimited_so_far header lines text is kind others none short.0))))
    (λ full.
    subst Has (append_assoc header (10 ∷ (lines ++ text)) back)
    ([], Failed Limit, no_item (data_too_large (header ++ 10 ∷ (lines ++ text)) back (delimited_too_large header lines text is kind others none full))))
    enough
delimited_has header back is kind (delimiter_line lines remaining others) enough later =
    let delimiter = delimiter_of header in
    let line_end = delimiter ++ 10 ∷ [] in
    let size : length (lines ++ (delimiter ++ 10 ∷ remaining)) ≡ length lines + (length delimiter + suc (length remaining)) = length-append lines (delimiter ++ 10 ∷ remaining) ∙ ap (λ n. length lines + n) (length-append delimiter (10 ∷ remaining)) in
    let small : length lines ≤ largest_data = ⊎_elim (λ short. omega (arith, short.0)) (λ full. omega arith) enough in
    let data_is = delimited header lines is kind others small in
    let inner : (lines ++ line_end) ++ (remaining ++ back) ≡ (lines ++ (delimiter ++ 10 ∷ remaining)) ++ back =
    append_assoc lines line_end (remaining ++ back)
    ∙ ap (λ l. lines ++ l) (append_assoc delimiter (10 ∷ []) (remaining ++ back) ∙ sym (append_assoc delimiter (10 ∷ remaining) back))
    ∙ sym (append_assoc lines (delimiter ++ 10 ∷ remaining) back) in
    subst Has (append_assoc header (10 ∷ (lines ++ line_end)) (remaining ++ back) ∙ ap (λ l. header ++ 10 ∷ l) inner)
    (after_data data_is (remaining ++ back) (λ l short. later l (omega (arith, length-append remaining back, length-append (lines ++ (delimiter ++ 10 ∷ remaining)) back))))

-- a data header that names a delimiter
delimited_line : (header rest : List ℕ) → IsLine header → kind_of header ≡ Delimited
    → ((later : List ℕ) → length later ≤ length rest → Has later) → Has (header ++ 10 ∷ rest)
delimited_line header rest is kind later =
    let most = largest_data + length (delimiter_of header) + 1 in
    let joined : take most rest ++ drop most rest ≡ rest = take-append-drop most rest in
    subst (λ (l : List ℕ). Has (header ++ 10 ∷ l)) joined
    (delimited_has header (drop most rest) is kind (parts (length (take most rest)) (delimiter_of header) (take most rest) (omega arith))
    (⊎_elim
    (λ short. inl (omega (arith, ap length (take_all most rest (omega arith))), drop_all most rest (omega arith)))
    (λ long. inr (length-take-le most rest long))
    (cases_lt (length rest) most))
    (λ l short. later l (omega (arith, ap length joined))))

-- a whole line
line_has : (text rest : List ℕ) (kind : LineKind) → IsLine text → kind_of text ≡ kind
    → ((later : List ℕ) → length later ≤ length rest → Has later) → Has (text ++ 10 ∷ rest)
line_has text rest Empty is kind later =
    let had = later rest (omega arith) in
    subst (λ (l : List ℕ). Has (l ++ 10 ∷ rest)) (sym (nil_from_length text (kind-empty text kind))) (Blank ∷ had.0, had.1, whole_line [] rest (record { one_line = refl; within_limit = omega arith }) blank_line had.2)
line_has text rest Comment is kind later = let had = later rest (omega arith) in (had.0, had.1, whole_line text rest is (comment text kind) had.2)
line_has text rest (Counted size) is kind later = counted_has text rest size is kind later
line_has text rest Delimited is kind later = delimited_line text rest is kind later
line_has text rest BadHeader is kind later = ([], Failed BadData, no_item (bad_header text rest is kind))
line_has text rest Other is kind later = let had = later rest (omega arith) in (Line text ∷ had.0, had.1, whole_line text rest is (line text kind) had.2)

no_line_end_before : (n : ℕ) (bytes : List ℕ) → n ≤ line_length bytes → HasNoLineEnd (take n bytes)
no_line_end_before n bytes within = subst (λ (l : List ℕ). HasNoLineEnd l) (take-take n (line_length bytes) bytes within) (none_in-take n (take (line_length bytes) bytes) (none_in_line bytes))

has : (n : ℕ) (bytes : List ℕ) → length bytes ≤ n → Has bytes
has n [] short = ([], Rest false [], no_item nothing_left)
has zero (byte ∷ bytes) short = absurd (omega arith)
has (suc n) (byte ∷ more) short =
    let bytes = byte ∷ more in
    let end = line_length bytes in
    ⊎_elim
    (λ long.
    subst Has (take-append-drop (longest_line + 1) bytes)
    ([], Failed LineTooLong, no_item (line_too_long (take (longest_line + 1) bytes) (drop (longest_line + 1) bytes) (no_line_end_before (longest_line + 1) bytes (omega arith)) (length-take-le (longest_line + 1) bytes (omega (arith, line_length-le bytes))))))
    (λ fits. ⊎_elim
    (λ found.
    let text = take end bytes in
    let rest = drop (end + 1) bytes in
    let is : IsLine text = record { one_line = none_in_line bytes; within_limit = omega (arith, length-take-le end bytes (line_length-le bytes)) } in
    subst Has (sym (line_split bytes end refl found))
    (line_has text rest (kind_of text) is refl (λ later shorter. has n later (omega (arith, length-drop (end + 1) bytes)))))
    (λ none.
    ([], Rest false bytes, no_item (unfinished_line bytes (record { one_line = omega (arith, line_length-le bytes); within_limit = omega (arith, line_length-le bytes) }) (λ e. cc))))
    (cases_lt end (length bytes)))
    (cases_lt longest_line end)

pub readings : (bytes : List ℕ) → Has bytes
readings bytes = has (length bytes) bytes (omega arith)

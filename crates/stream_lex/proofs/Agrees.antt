-- Each reading by the relation is the one that the plain program gives.
use Rattle.std.proofs.Common.{◌≡◌, ℕ, ◌+◌, true, false, List, [], ◌∷◌, ◌++◌, length, take, drop, Option, None, Some, arith, refl, sym, ap, ◌∙◌, subst, length-append, append_assoc, ne_eqb}
use Rattle.std.specs.Prelude.{option_map}
use Rattle.std.proofs.lemmas.List.{take_at, drop_at, append-nil}
use Rattle.stream_lex.specs.declared.fault.Fault.TheVariants.{LineTooLong, BadData, Limit}
use Rattle.stream_lex.specs.declared.header.LineKind.{LineKind}
use Rattle.stream_lex.specs.declared.header.LineKind.TheVariants.{Empty, Comment, Counted, Delimited, BadHeader, Other}
use Rattle.stream_lex.specs.Items.{Item, Line, Data, Blank, Tail, Rest, Failed, before, after_items}
use Rattle.stream_lex.specs.Headers.{HasNoLineEnd, IsLine, kind_of, delimiter_of}
use Rattle.stream_lex.specs.Reads.{OtherLines, no_lines, one_more, IsData, counted, delimited, IsUnfinishedData, counted_so_far, delimited_so_far, IsTooLargeData, counted_too_large, delimited_too_large, Leaves, nothing_left, unfinished_line, line_too_long, bad_header, unfinished_data, data_too_large, LineGives, comment, blank_line, line, ContinuesWith, line_end as skipped_line_end, other_byte, Reads, no_item, whole_line as reads_whole_line, data_at_end, data_and_more}
use Rattle.stream_lex.specs.Reading.{Stops, Gives, first_of, whole_line, before_delimiter, data_before, reading}
use Rattle.stream_lex.proofs.LineEnds.{line_length-append_none}
use Rattle.stream_lex.proofs.Delimiters.{none_in-drop, option_map-same, before-other_line, before-delimiter_line, before-no_line, option_map-twice}
use Rattle.std.proofs.lemmas.Iterator.Adapters.{option_map_id}
use Rattle.stream_lex.proofs.LineKinds.{kind-nil}
use Rattle.stream_lex.proofs.Firsts.{first-too_long, first-whole_at, first-unfinished, counted-too_large, counted-unfinished, counted-whole, before-whole, before-unfinished, before-overdue}
use Rattle.stream_lex.proofs.Settled.{IsSettled, first-settled}
use Rattle.stream_lex.proofs.Walks.{reading-alike, reading-gives, reading-skips, reading-stops, stands-false, walk-skip_one, walk-nil}

-- where a line stands first
line_first : (text rest : List ℕ) → IsLine text → first_of (text ++ 10 ∷ rest) ≡ whole_line (kind_of text) text (length text + 1) (text ++ 10 ∷ rest)
line_first text rest is =
    first-whole_at (text ++ 10 ∷ rest) (length text) (line_length-append_none text (10 ∷ rest) is.one_line ∙ omega arith) is.within_limit (omega (arith, length-append text (10 ∷ rest)))
    ∙ ap (λ t. whole_line (kind_of t) t (length text + 1) (text ++ 10 ∷ rest)) (take_at text (10 ∷ rest) (length text) refl)

line_is : (text rest : List ℕ) (kind : LineKind) → IsLine text → kind_of text ≡ kind
    → first_of (text ++ 10 ∷ rest) ≡ whole_line kind text (length text + 1) (text ++ 10 ∷ rest)
line_is text rest kind is kind_is = line_first text rest is ∙ ap (λ k. whole_line k text (length text + 1) (text ++ 10 ∷ rest)) kind_is

-- what stands after a line
after_line : (text rest : List ℕ) → drop (length text + 1) (text ++ 10 ∷ rest) ≡ rest
after_line text rest = ap (drop (length text + 1)) (sym (append_assoc text (10 ∷ []) rest)) ∙ drop_at (text ++ 10 ∷ []) rest (length text + 1) (length-append text (10 ∷ []))

-- whole lines hold no delimiter line
pub before-lines : (delimiter : List ℕ) {lines : List ℕ} → HasNoLineEnd delimiter
    → OtherLines delimiter lines → (rest : List ℕ)
    → before_delimiter delimiter true (lines ++ rest) ≡ option_map (λ n. length lines + n) (before_delimiter delimiter true rest)
before-lines delimiter none no_lines rest = sym (option_map-same (λ n. 0 + n) (λ n. n) (before_delimiter delimiter true rest) (λ n. omega arith) ∙ option_map_id (before_delimiter delimiter true rest))
before-lines delimiter none (one_more text lines text_none other later) rest =
    ap (before_delimiter delimiter true) (append_assoc text (10 ∷ lines) rest)
    ∙ before-other_line delimiter text (lines ++ rest) text_none none other
    ∙ ap (option_map (λ n. length text + 1 + n)) (before-lines delimiter none later rest)
    ∙ option_map-twice (λ n. length text + 1 + n) (λ n. length lines + n) (λ n. length (text ++ 10 ∷ lines) + n) (before_delimiter delimiter true rest)
    (λ n. omega (arith, length-append text (10 ∷ lines)))

-- whole lines and a text hold no delimiter line
pub before-lines_and_text : (delimiter lines text : List ℕ) → HasNoLineEnd delimiter
    → OtherLines delimiter lines → HasNoLineEnd text
    → before_delimiter delimiter true (lines ++ text) ≡ None
before-lines_and_text delimiter lines text none others text_none =
    before-lines delimiter none others text ∙ ap (option_map (λ n. length lines + n)) (before-no_line delimiter true text text_none)

-- whole lines before the delimiter line
pub before-lines_and_delimiter : (delimiter lines rest : List ℕ) → HasNoLineEnd delimiter
    → OtherLines delimiter lines
    → before_delimiter delimiter true (lines ++ (delimiter ++ 10 ∷ rest)) ≡ Some (length lines)
before-lines_and_delimiter delimiter lines rest none others =
    before-lines delimiter none others (delimiter ++ 10 ∷ rest)
    ∙ ap (option_map (λ n. length lines + n)) (before-delimiter_line delimiter rest)
    ∙ ap Some (omega arith)

no_line_end_in : (header : List ℕ) → IsLine header → HasNoLineEnd (delimiter_of header)
no_line_end_in header is = none_in-drop 7 header is.one_line

-- what stands first where a delimited data's header is there
header_delimited : (header remaining : List ℕ) (o : Option ℕ) → IsLine header
    → kind_of header ≡ Delimited → before_delimiter (delimiter_of header) true remaining ≡ o
    → first_of (header ++ 10 ∷ remaining) ≡ data_before o (delimiter_of header) (length header + 1) (header ++ 10 ∷ remaining)
header_delimited header remaining o is kind e =
    line_is header remaining Delimited is kind
    ∙ ap (λ k. data_before k (delimiter_of header) (length header + 1) (header ++ 10 ∷ remaining)) (ap (before_delimiter (delimiter_of header) true) (after_line header remaining) ∙ e)

long : (header remaining : List ℕ) → length (header ++ 10 ∷ remaining) ≡ length header + 1 + length remaining
long header remaining = length-append header (10 ∷ remaining) ∙ omega arith

-- a whole data stands first
pub data_first : {text raw : List ℕ} → IsData text raw → (rest : List ℕ)
    → first_of (text ++ rest) ≡ Gives (Data raw) (length text)
data_first (counted header raw is kind small) rest =
    let n = length header + 1 in
    let bytes = header ++ 10 ∷ (raw ++ rest) in
    ap first_of (append_assoc header (10 ∷ raw) rest)
    ∙ line_is header (raw ++ rest) (Counted (length raw)) is kind
    ∙ counted-whole (length raw) n bytes small (omega (arith, long header (raw ++ rest), length-append raw rest))
    ∙ ap (λ l. Gives (Data (take (length raw) l)) (n + length raw)) (after_line header (raw ++ rest))
    ∙ ap (λ l. Gives (Data l) (n + length raw)) (take_at raw rest (length raw) refl)
    ∙ ap (Gives (Data raw)) (sym (long header raw))
data_first (delimited header raw is kind others small) rest =
    let n = length header + 1 in
    let delimiter = delimiter_of header in
    let remaining = raw ++ (delimiter ++ 10 ∷ rest) in
    let bytes = header ++ 10 ∷ remaining in
    let line_end = delimiter ++ 10 ∷ [] in
    let joined : (raw ++ line_end) ++ rest ≡ remaining = append_assoc raw line_end rest ∙ ap (λ l. raw ++ l) (append_assoc delimiter (10 ∷ []) rest) in
    ap first_of (append_assoc header (10 ∷ (raw ++ line_end)) rest ∙ ap (λ l. header ++ 10 ∷ l) joined)
    ∙ header_delimited header remaining (Some (length raw)) is kind (before-lines_and_delimiter delimiter raw rest (no_line_end_in header is) others)
    ∙ before-whole (length raw) delimiter n bytes small
    ∙ ap (λ l. Gives (Data (take (length raw) l)) (n + length raw + length delimiter + 1)) (after_line header remaining)
    ∙ ap (λ l. Gives (Data l) (n + length raw + length delimiter + 1)) (take_at raw (delimiter ++ 10 ∷ rest) (length raw) refl)
    ∙ ap (Gives (Data raw)) (omega (arith, long header (raw ++ line_end), length-append raw line_end, length-append delimiter (10 ∷ [])))

-- an unfinished data, and one that is too large
unfinished_first : {text : List ℕ} → IsUnfinishedData text → first_of text ≡ Stops (Rest false text)
unfinished_first (counted_so_far header raw size is kind small short) =
    line_is header raw (Counted size) is kind ∙ counted-unfinished size (length header + 1) (header ++ 10 ∷ raw) small (omega (arith, long header raw))
unfinished_first (delimited_so_far header lines text is kind others text_none short) =
    header_delimited header (lines ++ text) None is kind (before-lines_and_text (delimiter_of header) lines text (no_line_end_in header is) others text_none)
    ∙ before-unfinished (delimiter_of header) (length header + 1) (header ++ 10 ∷ (lines ++ text)) (omega (arith, long header (lines ++ text)))

too_large_first : {text : List ℕ} → IsTooLargeData text → first_of text ≡ Stops (Failed Limit)
too_large_first (counted_too_large header size is kind large) =
    line_is header [] (Counted size) is kind ∙ counted-too_large size (length header + 1) (header ++ 10 ∷ []) large
too_large_first (delimited_too_large header lines text is kind others text_none enough) =
    header_delimited header (lines ++ text) None is kind (before-lines_and_text (delimiter_of header) lines text (no_line_end_in header is) others text_none)
    ∙ before-overdue (delimiter_of header) (length header + 1) (header ++ 10 ∷ (lines ++ text)) (omega (arith, long header (lines ++ text)))

-- a data, and what comes after it
data_and : {text raw : List ℕ} → IsData text raw → (rest : List ℕ)
    → reading false (text ++ rest) ≡ before (Data raw) (reading true rest)
data_and {text = text} {raw = raw} is rest =
    reading-gives (text ++ rest) false (Data raw) (length text) (stands-false (text ++ rest)) (data_first is rest)
    ∙ ap (λ l. before (Data raw) (reading true l)) (drop_at text rest (length text) refl)

-- each case of the relations is the plain program's
no_item_so : {bytes : List ℕ} {tail : Tail} → Leaves bytes tail
    → reading false bytes ≡ record { items = []; tail = tail }
no_item_so nothing_left = walk-nil 0 false
no_item_so (unfinished_line text is some) = reading-stops text false (Rest false text) (stands-false text) (first-unfinished text (omega (arith, is.one_line, is.within_limit)) (omega (arith, is.one_line)))
no_item_so (line_too_long text rest none long_text) =
    reading-stops (text ++ rest) false (Failed LineTooLong) (stands-false (text ++ rest)) (first-too_long (text ++ rest) (omega (arith, line_length-append_none text rest none)))
no_item_so (bad_header text rest is kind) =
    reading-stops (text ++ 10 ∷ rest) false (Failed BadData) (stands-false (text ++ 10 ∷ rest)) (line_is text rest BadHeader is kind)
no_item_so (unfinished_data text is) = reading-stops text false (Rest false text) (stands-false text) (unfinished_first is)
no_item_so (data_too_large text rest is) =
    let first = too_large_first is in
    reading-stops (text ++ rest) false (Failed Limit) (stands-false (text ++ rest)) (first-settled text rest (subst IsSettled (sym first) tt) ∙ first)

line_so : {text : List ℕ} {given : List Item} → (rest : List ℕ) → IsLine text → LineGives text given
    → reading false (text ++ 10 ∷ rest) ≡ after_items given (reading false rest)
line_so rest is (comment text kind) =
    reading-skips (text ++ 10 ∷ rest) false (length text + 1) (stands-false (text ++ 10 ∷ rest)) (line_is text rest Comment is kind)
    ∙ ap (reading false) (after_line text rest)
line_so rest is blank_line =
    reading-gives (10 ∷ rest) false Blank 1 refl (line_is [] rest Empty is kind-nil)
line_so rest is (line text kind) =
    reading-gives (text ++ 10 ∷ rest) false (Line text) (length text + 1) (stands-false (text ++ 10 ∷ rest)) (line_is text rest Other is kind)
    ∙ ap (λ l. before (Line text) (reading false l)) (after_line text rest)

more_so : {more rest : List ℕ} → ContinuesWith more rest → reading true more ≡ reading false rest
more_so (skipped_line_end rest) = walk-skip_one 10 rest true refl
more_so (other_byte byte rest other) = reading-alike (byte ∷ rest) true (ne_eqb byte 10 other)

pub read_so : {bytes : List ℕ} {items : List Item} {tail : Tail} → Reads bytes items tail
    → reading false bytes ≡ record { items = items; tail = tail }
read_so (no_item leaves) = no_item_so leaves
read_so (reads_whole_line text rest {given = given} is gives later) =
    line_so rest is gives ∙ ap (after_items given) (read_so later)
read_so (data_at_end text raw is) =
    ap (reading false) (sym (append-nil text)) ∙ data_and is [] ∙ ap (before (Data raw)) (walk-nil 0 true)
read_so (data_and_more text raw more rest is continues later) =
    data_and is more ∙ ap (before (Data raw)) (more_so continues ∙ read_so later)

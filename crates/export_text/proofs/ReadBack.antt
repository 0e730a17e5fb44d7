-- The text of items, read again, gives these items.
use Rattle.std.proofs.Common.{◌≡◌, ℕ, ◌<◌, ◌≤◌, ◌^◌, true, false, ◌&&◌, List, [], ◌∷◌, ◌++◌, length, All, Some, None, refl, sym, ap, subst, ◌∙◌, arith, append_assoc, codes, length-append, drop, eqb, eqb-true}
use Rattle.std.specs.Prelude.{decimal, nat_eq, nat_le, nat_lt}
use Rattle.std.specs.Char.{is_ascii_digit}
use Rattle.std.specs.List.{list_all, starts_with}
use Rattle.std.proofs.lemmas.Bool.{and_parts}
use Rattle.std.proofs.lemmas.Bool.Decides.{Decides-eqb, nat_tests}
use Rattle.std.proofs.lemmas.Slice.Eq.{starts_is}
use Rattle.std.proofs.lemmas.List.Elements.{All-head, All-tail}
use Rattle.numerals.specs.Numbers.{is_numeral, number_of}
use Rattle.numerals.proofs.Numerals.{number_of-decimal}
use Rattle.stream_lex.specs.declared.header.LineKind.TheVariants.{Counted}
use Rattle.stream_lex.specs.Headers.{HasNoLineEnd, IsLine, header_kind, is_line_end, kind_of}
use Rattle.stream_lex.specs.Items.{Item, Line, Data, Blank, Rest}
use Rattle.stream_lex.specs.Reading.{reading}
use Rattle.stream_lex.specs.Reads.{Reads, no_item, nothing_left, whole_line, blank_line, line, data_and_more, line_end, counted}
use Rattle.stream_lex.proofs.Agrees.{read_so}
use Rattle.stream_lex.proofs.Cases.{by_cases}
use Rattle.stream_lex.proofs.Delimiters.{none_joined}
use Rattle.export_text.specs.ItemText.{CanWriteItem, items_text}

-- ---- the header of a data

all_digits : (text : List ℕ) (n : ℕ) → number_of text ≡ Some n → is_numeral text ≡ true
unfolding number_of
all_digits text n e = by_cases (is_numeral text) (λ numeral. numeral)
    (λ other. let no_way : None ≡ Some n = rw other at e in cc)

digit_is : (x y : ℕ) → is_ascii_digit x ≡ true → is_ascii_digit y ≡ false → nat_eq x y ≡ false
digit_is x y digit none = by_cases (nat_eq x y)
    (λ same. let is : x ≡ y = grind (arith, nat_tests, same) in
    let no_way : true ≡ false = sym digit ∙ ap is_ascii_digit is ∙ none in cc)
    (λ other. other)

no_line_end : (xs : List ℕ) → list_all is_ascii_digit xs ≡ true → HasNoLineEnd xs
no_line_end [] h = refl
no_line_end (x ∷ xs) h =
    let parts = and_parts (is_ascii_digit x) (list_all is_ascii_digit xs) h in
    let other : is_line_end x ≡ false = digit_is x 10 parts.0 refl in
    rw other (let rest = no_line_end xs parts.1 in omega arith)

no_delimiter : (xs : List ℕ) → list_all is_ascii_digit xs ≡ true
    → starts_with nat_eq xs (codes "<<") ≡ false
no_delimiter xs h = by_cases (starts_with nat_eq xs (codes "<<"))
    (λ begins.
    let e : xs ≡ codes "<<" ++ drop 2 xs =
    (starts_is Decides-eqb xs (codes "<<") (starts_with nat_eq xs (codes "<<")) refl).0 begins in
    let no_way : true ≡ false = sym h ∙ ap (list_all is_ascii_digit) e in cc)
    (λ other. other)

counted_header : (n : ℕ) → n < 2 ^ 64 → header_kind (decimal n) ≡ Counted n
unfolding header_kind
counted_header n lt =
    let is = number_of-decimal n lt in
    let digits = (and_parts (nat_lt 0 (length (decimal n)) && nat_le (length (decimal n)) 20) (list_all is_ascii_digit (decimal n)) (all_digits (decimal n) n is)).1 in
    rw (no_delimiter (decimal n) digits, is) refl

data_kind : (argument : List ℕ) → kind_of (codes "data " ++ argument) ≡ header_kind argument
unfolding kind_of
data_kind argument = by_cases (eqb (length (codes "data " ++ argument)) 0)
    (λ empty. absurd (omega (arith, eqb-true (length (codes "data " ++ argument)) 0 empty)))
    (λ some. rw some refl)

header_is_line : (n : ℕ) → n < 2 ^ 64 → IsLine (codes "data " ++ decimal n)
header_is_line n lt =
    let numeral = all_digits (decimal n) n (number_of-decimal n lt) in
    let digits = (and_parts (nat_lt 0 (length (decimal n)) && nat_le (length (decimal n)) 20) (list_all is_ascii_digit (decimal n)) numeral).1 in
    let short : length (decimal n) ≤ 20 = grind (arith, nat_tests, (and_parts (nat_lt 0 (length (decimal n))) (nat_le (length (decimal n)) 20) (and_parts (nat_lt 0 (length (decimal n)) && nat_le (length (decimal n)) 20) (list_all is_ascii_digit (decimal n)) numeral).0).1) in
    record {
      one_line = none_joined (codes "data ") (decimal n) refl (no_line_end (decimal n) digits);
      within_limit = omega (arith, length-append (codes "data ") (decimal n), short);
    }

-- ---- all items

pub read-back : (items : List Item) → All CanWriteItem items
    → Reads (items_text items) items (Rest false [])
read-back [] can = no_item nothing_left
read-back (Line text ∷ items) can =
    let one = All-head CanWriteItem (Line text) items can in
    subst (λ (bytes : List ℕ). Reads bytes (Line text ∷ items) (Rest false []))
    (sym (append_assoc text (10 ∷ []) (items_text items)))
    (whole_line text (items_text items) one.0 (line text one.1) (read-back items (All-tail CanWriteItem (Line text) items can)))
read-back (Data raw ∷ items) can =
    let small : length raw ≤ 67108864 = All-head CanWriteItem (Data raw) items can in
    let header : List ℕ = codes "data " ++ decimal (length raw) in
    let lt : length raw < 2 ^ 64 = omega arith in
    subst (λ (bytes : List ℕ). Reads bytes (Data raw ∷ items) (Rest false []))
    (sym (ap (λ (t : List ℕ). (t ++ 10 ∷ []) ++ items_text items) (append_assoc header (10 ∷ []) raw)
    ∙ append_assoc (header ++ 10 ∷ raw) (10 ∷ []) (items_text items)))
    (data_and_more (header ++ 10 ∷ raw) raw (10 ∷ items_text items) (items_text items)
    (counted header raw (header_is_line (length raw) lt)
    (data_kind (decimal (length raw)) ∙ counted_header (length raw) lt) small)
    (line_end (items_text items)) (read-back items (All-tail CanWriteItem (Data raw) items can)))
read-back (Blank ∷ items) can =
    whole_line [] (items_text items) (record { one_line = refl; within_limit = omega arith })
    blank_line (read-back items (All-tail CanWriteItem Blank items can))

pub reads-back : (items : List Item) → All CanWriteItem items
    → reading false (items_text items) ≡ record { items = items; tail = Rest false [] }
reads-back items can = read_so (read-back items can)

-- What a line is, by its tests.
use Rattle.std.proofs.Common.{◌≡◌, ℕ, ◌≤◌, true, eqb, List, [], length, drop, Option, None, Some, arith, refl, ap, codes, eqb-true, length-append, length-drop}
use Rattle.std.specs.Prelude.{nat_eq}
use Rattle.std.specs.List.{starts_with}
use Rattle.std.proofs.lemmas.Bool.Decides.{Decides-eqb}
use Rattle.std.proofs.lemmas.Slice.Eq.{starts_is}
use Rattle.stream_lex.specs.declared.header.LineKind.TheVariants.{Empty, Comment, Delimited, BadHeader, Other}
use Rattle.stream_lex.specs.Headers.{counted_kind, header_kind, kind_of}
use Rattle.numerals.specs.Numbers.{number_of}
use Rattle.stream_lex.proofs.Cases.{by_cases}

-- a text that starts with another is no shorter
starts_length : (text start : List ℕ) → starts_with nat_eq text start ≡ true
    → length start ≤ length text
starts_length text start h =
    let e = (starts_is Decides-eqb text start (starts_with nat_eq text start) refl).0 h in
    omega (arith, ap length e, length-append start (drop (length start) text))

counted_is_not_delimited : (count : Option ℕ) → counted_kind count ≡ Delimited → ⊥
counted_is_not_delimited None e = cc
counted_is_not_delimited (Some size) e = cc

header-delimited : (argument : List ℕ) → header_kind argument ≡ Delimited → 2 ≤ length argument
unfolding header_kind
header-delimited argument e = by_cases (starts_with nat_eq argument (codes "<<"))
    (λ begins. starts_length argument (codes "<<") begins)
    (λ other. absurd (counted_is_not_delimited (number_of argument) (rw other at e)))

-- the header of a delimited data has at least `data <<`
pub kind-delimited : (text : List ℕ) → kind_of text ≡ Delimited → 7 ≤ length text
unfolding kind_of
kind-delimited text e = by_cases (eqb (length text) 0)
    (λ empty. let no_way : Empty ≡ Delimited = rw empty at e in cc)
    (λ some. by_cases (starts_with nat_eq text (codes "#"))
    (λ hash. let no_way : Comment ≡ Delimited = rw (some, hash) at e in cc)
    (λ no_hash. by_cases (starts_with nat_eq text (codes "data "))
    (λ header.
    let argument : header_kind (drop 5 text) ≡ Delimited = rw (some, no_hash, header) at e in
    omega (arith, header-delimited (drop 5 text) argument, starts_length text (codes "data ") header, length-drop 5 text))
    (λ other. let no_way : Other ≡ Delimited = rw (some, no_hash, other) at e in cc)))

-- the empty line
pub kind-nil : kind_of [] ≡ Empty
unfolding kind_of
kind-nil = refl

count_is_not_empty : (count : Option ℕ) → counted_kind count ≡ Empty → ⊥
count_is_not_empty None e = cc
count_is_not_empty (Some size) e = cc

header_is_not_empty : (argument : List ℕ) → header_kind argument ≡ Empty → ⊥
unfolding header_kind
header_is_not_empty argument e = by_cases (starts_with nat_eq argument (codes "<<"))
    (λ begins. by_cases (eqb (length argument) 2)
    (λ two. let no_way : BadHeader ≡ Empty = rw (begins, two) at e in cc)
    (λ more. let no_way : Delimited ≡ Empty = rw (begins, more) at e in cc))
    (λ other. count_is_not_empty (number_of argument) (rw other at e))

-- only the empty line is empty
pub kind-empty : (text : List ℕ) → kind_of text ≡ Empty → length text ≡ 0
unfolding kind_of
kind-empty text e = by_cases (eqb (length text) 0)
    (λ empty. eqb-true (length text) 0 empty)
    (λ some. by_cases (starts_with nat_eq text (codes "#"))
    (λ hash. let no_way : Comment ≡ Empty = rw (some, hash) at e in cc)
    (λ no_hash. by_cases (starts_with nat_eq text (codes "data "))
    (λ header. absurd (header_is_not_empty (drop 5 text) (rw (some, no_hash, header) at e)))
    (λ other. let no_way : Other ≡ Empty = rw (some, no_hash, other) at e in cc)))

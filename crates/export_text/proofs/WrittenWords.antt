-- Words of a line that were written are read as they were meant.
use Rattle.std.proofs.Common.{◌≡◌, ◌≢◌, ℕ, ◌+◌, ◌<◌, ◌≤◌, ◌^◌, ◌==◌, ◌&&◌, not, Bool, true, false, List, [], ◌∷◌, ◌++◌, length, take, drop, replicate, All, Some, Ok, refl, sym, ap, subst, ◌∙◌, arith, codes, suc, inl}
use Rattle.std.proofs.lemmas.List.Elements.{All-head, All-tail}
use Rattle.std.specs.Prelude.{decimal, nat_lt, nat_le}
use Rattle.std.specs.Char.{is_ascii_digit}
use Rattle.std.specs.List.{list_all, position_from}
use Rattle.std.specs.Str.{bytes_eq}
use Rattle.std.proofs.lemmas.Bool.{and_parts, false≢true, ne_eqb, false_from_ne_true, lt-ltb}
use Rattle.std.specs.List.{AllPass}
use Rattle.std.proofs.lemmas.List.Sums.{list_all-from_AllPass}
use Rattle.std.proofs.lemmas.Slice.Eq.{bytes_eq-Decides}
use Rattle.hex.specs.Hex.{encode_lower, is_hex_digit, lower_digits}
use Rattle.hex.proofs.HexLemmas.{decode_of-encode_lower, decode_of-ok, length-encode_with}
use Rattle.numerals.proofs.Numerals.{is_numeral-decimal}
use Rattle.git_model.specs.Commit.{IsEncoding}
use Rattle.git_model.specs.Ident.{IsWrittenIdent}
use Rattle.git_model.specs.RefName.{IsRefName}
use Rattle.git_model.specs.ObjectName.{IsObjectName}
use Rattle.git_model.proofs.IdentLaws.{read_ident-Ok, written_ident-same}
use Rattle.git_model.proofs.OneLine.{bytes_of}
use Rattle.stream_grammar.specs.Texts.{is_space, argument, first_word, after_space, after_colon}
use Rattle.stream_grammar.specs.Names.{Marked, Expression, ident_of, commit_ish_of}
use Rattle.stream_grammar.specs.Changes.{encoding_of}
use Rattle.stream_grammar.specs.Features.{head_of}
use Rattle.stream_grammar.proofs.Printed.{mark_of-decimal}
use Rattle.stream_grammar.proofs.Refs.{ref_of-Ok}

-- ---- a word without a space ends at the first one

abbrev pub HasNoSpace : List ℕ → Type 0
HasNoSpace word = list_all (λ byte. not (byte == 32)) word ≡ true

no_space : (b : Bool) → not b ≡ true → b ≡ false
no_space true h = absurd (false≢true h)
no_space false h = refl

first-space-from : (at : ℕ) (word rest : List ℕ) → HasNoSpace word
    → position_from is_space at (word ++ 32 ∷ rest) ≡ Some (at + length word)
first-space-from at [] rest h = let e : at ≡ at + length {A = ℕ} [] = omega arith in ap (λ (n : ℕ). Some n) e
first-space-from at (b ∷ word) rest h =
    let parts = and_parts (not (b == 32)) (list_all (λ byte. not (byte == 32)) word) h in
    let e : at + 1 + length word ≡ at + length (b ∷ word) = omega arith in
    rw (no_space (b == 32) parts.0) (first-space-from (at + 1) word rest parts.1 ∙ ap (λ (n : ℕ). Some n) e)

first-space : (word rest : List ℕ) → HasNoSpace word
    → position_from is_space 0 (word ++ 32 ∷ rest) ≡ Some (length word)
first-space word rest h =
    let e : 0 + length word ≡ length word = omega arith in
    first-space-from 0 word rest h ∙ ap (λ (n : ℕ). Some n) e

take-front : (word rest : List ℕ) → take (length word) (word ++ rest) ≡ word
take-front [] rest = refl
take-front (b ∷ word) rest = ap (λ w. b ∷ w) (take-front word rest)

drop-suc : (word rest : List ℕ) → drop (suc (length word)) (word ++ 32 ∷ rest) ≡ rest
drop-suc [] rest = refl
drop-suc (b ∷ word) rest = drop-suc word rest

drop-front : (word rest : List ℕ) → drop (length word + 1) (word ++ 32 ∷ rest) ≡ rest
drop-front word rest =
    let e : length word + 1 ≡ suc (length word) = omega arith in
    ap (λ (n : ℕ). drop n (word ++ 32 ∷ rest)) e ∙ drop-suc word rest

pub word-first : (word rest : List ℕ) → HasNoSpace word → first_word (word ++ 32 ∷ rest) ≡ word
word-first word rest h = rw (first-space word rest h) (take-front word (32 ∷ rest))

pub rest-after : (word rest : List ℕ) → HasNoSpace word
    → after_space (word ++ 32 ∷ rest) ≡ Some rest
rest-after word rest h = rw (first-space word rest h) (ap (λ (x : List ℕ). Some x) (drop-front word rest))

pub argument-after : (word rest : List ℕ) → HasNoSpace word → argument (word ++ 32 ∷ rest) ≡ rest
argument-after word rest h = rw (first-space word rest h) (drop-front word rest)

-- ---- marks, names, refs, idents, encodings

spaceless : (p : ℕ → Bool) → p 32 ≡ false → (text : List ℕ) → list_all p text ≡ true
    → HasNoSpace text
spaceless p other [] h = refl
spaceless p other (b ∷ text) h =
    let parts = and_parts (p b) (list_all p text) h in
    let no : (b == 32) ≡ false = ne_eqb b 32 (λ is. false≢true (sym other ∙ subst (λ x. p x ≡ true) is parts.0)) in
    rw no (spaceless p other text parts.1)

pub mark-spaceless : (n : ℕ) → n < 2 ^ 64 → HasNoSpace (codes ":" ++ decimal n)
mark-spaceless n lt =
    let digits = (and_parts (nat_lt 0 (length (decimal n)) && nat_le (length (decimal n)) 20) (list_all is_ascii_digit (decimal n)) (is_numeral-decimal n lt)).1 in
    spaceless is_ascii_digit refl (decimal n) digits

pub commit_ish-mark : (n : ℕ) → 0 < n → n < 2 ^ 64
    → commit_ish_of (codes ":" ++ decimal n) ≡ Ok (Marked n)
unfolding after_colon
commit_ish-mark n some fits = let e = mark_of-decimal n some fits in rw e refl

pub commit_ish-none : commit_ish_of (replicate 40 48) ≡ Ok (Expression (replicate 40 48))
unfolding after_colon
commit_ish-none = refl

pub ident-read : (text : List ℕ) → IsWrittenIdent text → ident_of text ≡ Ok text
ident-read text is =
    let e = (read_ident-Ok text).1 is.0 in
    rw (e, written_ident-same text is.1) refl

pub no_ends : (text : List ℕ) → All (λ byte. byte ≢ 10) text
    → list_all (λ byte. not (byte == 10)) text ≡ true
no_ends [] line = refl
no_ends (b ∷ text) line =
    let no : (b == 10) ≡ false = ne_eqb b 10 (All-head (λ byte. byte ≢ 10) b text line) in
    rw no (no_ends text (All-tail (λ byte. byte ≢ 10) b text line))

some_bytes : (text : List ℕ) → text ≢ [] → 0 < length text
some_bytes [] some = absurd (some refl)
some_bytes (b ∷ text) some = omega arith

pub encoding-read : (text : List ℕ) → IsEncoding text → encoding_of text ≡ Ok text
encoding-read text is =
    rw (lt-ltb 0 (length text) (some_bytes text is.not_empty), no_ends text is.one_line) refl

digits-spaceless : (digits : List ℕ) → list_all is_hex_digit digits ≡ true → HasNoSpace digits
digits-spaceless digits h = spaceless is_hex_digit refl digits h

pub name-spaceless : (id : List ℕ) → IsObjectName id → HasNoSpace (encode_lower id)
name-spaceless id is =
    let digits : AllPass is_hex_digit (encode_lower id) =
    (decode_of-ok (encode_lower id) id (decode_of-encode_lower id (bytes_of id is))).1 in
    spaceless is_hex_digit refl (encode_lower id) (list_all-from_AllPass is_hex_digit (encode_lower id) digits)

pub name-other : (id : List ℕ) → IsObjectName id → bytes_eq (encode_lower id) (codes "inline") ≡ false
name-other id is =
    false_from_ne_true _ (λ same.
    let e : length (encode_lower id) ≡ 6 = ap length ((bytes_eq-Decides (encode_lower id) (codes "inline")).0 same) in
    omega (arith, e, is.size, length-encode_with lower_digits id))

-- ---- refs

not_head : (ref : List ℕ) → IsRefName ref → bytes_eq ref (codes "HEAD") ≡ false
not_head ref is =
    false_from_ne_true _ (λ same.
    let e : ref ≡ codes "HEAD" = (bytes_eq-Decides ref (codes "HEAD")).0 same in
    let begins = is.begins_with_refs in
    let no : codes "HEAD" ≡ codes "refs/" ++ begins.0 = sym e ∙ begins.1 in cc)

pub head-read : (ref : List ℕ) → IsRefName ref → length ref ≤ 1024 → head_of ref ≡ Ok ref
unfolding head_of
head-read ref is short = rw (not_head ref is) (ref_of-Ok ref (inl is) short)

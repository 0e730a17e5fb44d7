-- What stands on a header line has no line end in it, and its object name is read back.
use Rattle.std.proofs.Common.{◌≡◌, ◌≢◌, ℕ, Bool, true, false, not, List, [], ◌∷◌, ◌++◌, length, refl, sym, subst, ◌∙◌, Option, None, Some, IfSome, All, Ok, arith, ◌&&◌, ◌||◌, ◌==◌, inl, inr, codes}
use Rattle.std.specs.List.{list_all, AllPass}
use Rattle.std.specs.Char.{is_ascii_digit}
use Rattle.std.proofs.lemmas.Bool.{and_parts, false≢true, cases_lt}
use Rattle.std.proofs.lemmas.List.{get_or_past}
use Rattle.std.proofs.lemmas.List.Elements.{All-nil, All-cons, All-append, All-weaker, All-same, All-drop, All-from_recursion}
use Rattle.hex.specs.Hex.{IsBytes, encode_lower, decode_sized, is_hex_digit}
use Rattle.hex.proofs.HexLemmas.{decode_of-encode_lower, decode_sized-encode_lower, decode_of-ok}
use Rattle.git_model.specs.ObjectName.{IsObjectName}
use Rattle.git_model.specs.RefName.{IsRefName, is_forbidden}
use Rattle.git_model.specs.Ident.{IsWrittenIdent, person_text, date_text, is_person_byte, is_offset}

abbrev pub IsOneLine : List ℕ → Type 0
IsOneLine text = All (λ byte. byte ≢ 10) text

-- ---- object names in digits

pub bytes_of : (id : List ℕ) → IsObjectName id → IsBytes id
bytes_of id is k = elim (cases_lt k (length id)) [
  | inl lt ↦ is.bytes k 0 lt
  | inr ge ↦ rw (get_or_past id k 0 ge) (omega arith)
]

pub name_decodes : (id : List ℕ) → IsObjectName id → decode_sized (encode_lower id) 20 ≡ Ok id
name_decodes id is = decode_sized-encode_lower id 20 is.size (bytes_of id is)

pub digits_one_line : (id : List ℕ) → IsObjectName id → IsOneLine (encode_lower id)
digits_one_line id is =
    let digits : AllPass is_hex_digit (encode_lower id) =
    (decode_of-ok (encode_lower id) id (decode_of-encode_lower id (bytes_of id is))).1 in
    All-weaker (λ b. is_hex_digit b ≡ true) (λ b. b ≢ 10)
    (λ b h e. false≢true (subst (λ x. is_hex_digit x ≡ true) e h)) (encode_lower id) digits

-- ---- idents

pub all_from : (p : ℕ → Bool) → p 10 ≡ false → (xs : List ℕ) → list_all p xs ≡ true → IsOneLine xs
all_from p end [] h = All-nil (λ b. b ≢ 10)
all_from p end (x ∷ xs) h =
    let both = and_parts (p x) (list_all p xs) h in
    All-cons (λ b. b ≢ 10) x xs (λ e. false≢true (sym end ∙ subst (λ y. p y ≡ true) e both.0))
    (all_from p end xs both.1)

-- the bytes between the parts of an ident
abbrev is_mark : ℕ → Bool
is_mark byte = byte == 60 || byte == 62 || byte == 32

offset_one_line : (offset : List ℕ) → is_offset offset ≡ true → IsOneLine offset
offset_one_line [] h = absurd (false≢true h)
offset_one_line (sign ∷ digits) h =
    let parts = and_parts ((sign == 43 || sign == 45) && length digits == 4)
    (list_all is_ascii_digit digits) h in
    let sign_is = (and_parts (sign == 43 || sign == 45) (length digits == 4) parts.0).0 in
    All-cons (λ b. b ≢ 10) sign digits
    (λ e. false≢true (subst (λ b. (b == 43 || b == 45) ≡ true) e sign_is))
    (all_from is_ascii_digit refl digits parts.1)

pub ident_one_line : (text : List ℕ) → IsWrittenIdent text → IsOneLine text
ident_one_line text ((person, date, p, d, e), _) =
    All-same (λ b. b ≢ 10) text (person_text person ++ date_text date) e
    (All-append (λ b. b ≢ 10) (person_text person) (date_text date)
    (All-append (λ b. b ≢ 10) person.name (codes "<" ++ (person.email ++ codes "> "))
    (all_from is_person_byte refl person.name p.name)
    (All-append (λ b. b ≢ 10) (codes "<") (person.email ++ codes "> ")
    (all_from is_mark refl (codes "<") refl)
    (All-append (λ b. b ≢ 10) person.email (codes "> ")
    (all_from is_person_byte refl person.email p.email) (all_from is_mark refl (codes "> ") refl))))
    (All-append (λ b. b ≢ 10) date.seconds (codes " " ++ date.offset)
    (all_from is_ascii_digit refl date.seconds d.seconds_are_digits)
    (All-append (λ b. b ≢ 10) (codes " ") date.offset (all_from is_mark refl (codes " ") refl)
    (offset_one_line date.offset d.offset))))

-- ---- tags

pub tagger_one_line : (tagger : Option (List ℕ)) → IfSome tagger IsWrittenIdent
    → IfSome tagger IsOneLine
tagger_one_line None is = tt
tagger_one_line (Some text) is = ident_one_line text is

-- a tag's name is one line, since a ref name has no line end
pub tag_name_one_line : (name : List ℕ) → IsRefName (codes "refs/tags/" ++ name) → IsOneLine name
tag_name_one_line name is =
    let free = All-from_recursion (λ byte. is_forbidden byte ≡ false)
    (codes "refs/tags/" ++ name) is.no_forbidden_byte in
    All-weaker (λ byte. is_forbidden byte ≡ false) (λ byte. byte ≢ 10)
    (λ b h e. false≢true (sym (subst (λ x. is_forbidden x ≡ false) e h))) name
    (All-drop (λ byte. is_forbidden byte ≡ false) 10 (codes "refs/tags/" ++ name) free)

-- a word and what follows it are one line where the latter is
abbrev pub is_no_end : ℕ → Bool
is_no_end byte = not (byte == 10)

pub word_one_line : (word text : List ℕ) → list_all is_no_end word ≡ true → IsOneLine text
    → IsOneLine (word ++ text)
word_one_line word text plain is =
    All-append (λ b. b ≢ 10) word text (all_from is_no_end refl word plain) is

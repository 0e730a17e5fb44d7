-- What reading an ident gives, both ways; its time; and how it is written.
use Rattle.std.proofs.Common.{◌≡◌, ℕ, List, [], ◌∷◌, ◌++◌, Bool, true, false, ◌==◌, ◌↔◌, Ok, Err, inr, refl, sym, ap, ◌∙◌, subst, codes, ◌<◌, ◌^◌}
use Rattle.std.specs.List.{list_all}
use Rattle.std.specs.Char.{is_ascii_digit}
use Rattle.std.specs.Str.Parse.{digits_value}
use Rattle.std.proofs.lemmas.Bool.{and_parts, eqb-true, eq-eqb}
use Rattle.git_model.specs.Bytes.{BeginsWith}
use Rattle.git_model.specs.Ident.{Person, person_text, is_person_byte, IsPerson, Date, date_text, IsDate, NamesPerson, IsIdent, written_ident, IsWrittenIdent}
use Rattle.git_model.specs.IdentReading.{BadIdentity, BadDate, seconds_at, read_ident, ident_time}
use Rattle.git_model.proofs.Fronts.{take_front}
use Rattle.git_model.proofs.Idents.{after_person_only, Whole, Unnamed, Undated, is_read, named_by}

pub read_ident-Ok : (text : List ℕ) → (read_ident text ≡ Ok (written_ident text)) ↔ IsIdent text
read_ident-Ok text = elim (is_read text) [
  | Whole ident e ↦ (λ _. ident, λ _. e)
  | Unnamed nobody e ↦ (λ f. cc, λ ident. absurd (nobody (named_by text ident)))
  | Undated named other e ↦ (λ f. cc, λ ident. absurd (other ident))
]

-- nothing else is read
pub read_ident-Ok_only : (text ident : List ℕ) → read_ident text ≡ Ok ident
    → IsIdent text × (ident ≡ written_ident text)
read_ident-Ok_only text ident f = elim (is_read text) [
  | Whole well e ↦ (well, cc)
  | Unnamed nobody e ↦ cc
  | Undated named other e ↦ cc
]

pub read_ident-BadIdentity : (text : List ℕ) → (read_ident text ≡ Err BadIdentity)
    ↔ ¬ NamesPerson text
read_ident-BadIdentity text = elim (is_read text) [
  | Whole ident e ↦ (λ f. cc, λ nobody. absurd (nobody (named_by text ident)))
  | Unnamed nobody e ↦ (λ _. nobody, λ _. e)
  | Undated named other e ↦ (λ f. cc, λ nobody. absurd (nobody named))
]

pub read_ident-BadDate : (text : List ℕ) → (read_ident text ≡ Err BadDate)
    ↔ (NamesPerson text × ¬ IsIdent text)
read_ident-BadDate text = elim (is_read text) [
  | Whole ident e ↦ (λ f. cc, λ h. absurd (h.1 ident))
  | Unnamed nobody e ↦ (λ f. cc, λ h. absurd (nobody h.0))
  | Undated named other e ↦ (λ _. (named, other), λ _. e)
]

-- the time of an ident is the value of its seconds' digits
pub ident_time-of : (person : Person) (date : Date) → IsPerson person → IsDate date
    → ident_time (person_text person ++ date_text date) ≡ digits_value 10 date.seconds
unfolding ident_time
ident_time-of person date p d =
    ap seconds_at (after_person_only person (date_text date) p)
    ∙ ap (digits_value 10)
    (take_front is_ascii_digit date.seconds 32 date.offset d.seconds_are_digits refl)

-- ---- idents as they are written

-- no byte of a name is `<`
not_less : (b : ℕ) (name : List ℕ) → list_all is_person_byte (b ∷ name) ≡ true → (b == 60) ≡ false
not_less b name all = let here = (and_parts _ _ all).0 in cases (b == 60) refl here
  where
    cases : (t : Bool) → (b == 60) ≡ t → is_person_byte b ≡ true → (b == 60) ≡ false
    cases true e h = let never : is_person_byte b ≡ false = rw e refl in cc
    cases false e h = e

head_is : (b c : ℕ) (xs ys : List ℕ) → b ∷ xs ≡ c ∷ ys → b ≡ c
head_is b c xs ys e = cc

-- without a name the space that is put first becomes the name
without_name : (email : List ℕ) (date : Date) → list_all is_person_byte email ≡ true → IsDate date
    → IsWrittenIdent (32 ∷ (person_text (record { name = []; email = email }) ++ date_text date))
without_name email date plain d = (
  (
    record { name = codes " "; email = email },
    date,
    record { name = refl; name_ends_in_a_space = inr ([], refl); email = plain },
    d,
    refl,
  ),
  λ less. let never = head_is _ _ _ _ less.1 in cc,
)

-- a text that begins with a name's byte does not begin with `<`
with_name : (b : ℕ) (name rest : List ℕ) → list_all is_person_byte (b ∷ name) ≡ true
    → ¬ BeginsWith (b ∷ rest) (codes "<")
with_name b name rest plain less =
    let other = not_less b name plain in let is_less = eq-eqb b 60 (head_is _ _ _ _ less.1) in cc

written_of : (b : ℕ) (rest : List ℕ) → (b == 60) ≡ false → written_ident (b ∷ rest) ≡ b ∷ rest
written_of b rest e = rw e refl

by_name : (name email : List ℕ) (date : Date) → list_all is_person_byte name ≡ true
    → list_all is_person_byte email ≡ true → IsDate date
    → IsIdent (person_text (record { name = name; email = email }) ++ date_text date)
    → IsWrittenIdent
    (written_ident (person_text (record { name = name; email = email }) ++ date_text date))
by_name [] email date n e d ident = without_name email date e d
by_name (b ∷ name) email date n e d ident =
    subst IsWrittenIdent (sym (written_of b _ (not_less b name n))) (ident, with_name b name _ n)

-- an ident is written as one that does not begin with `<`
pub written_ident-IsWritten : (text : List ℕ) → IsIdent text → IsWrittenIdent (written_ident text)
written_ident-IsWritten text ident =
    subst (λ t. IsWrittenIdent (written_ident t)) (sym ident.4)
    (by_name ident.0.name ident.0.email ident.1 ident.2.name ident.2.email ident.3
    (subst IsIdent ident.4 ident))

-- one that does not begin with `<` is written as it is
pub written_ident-same : (text : List ℕ) → ¬ BeginsWith text (codes "<") → written_ident text ≡ text
written_ident-same [] h = refl
written_ident-same (b ∷ rest) h = cases (b == 60) refl
  where
    cases : (t : Bool) → (b == 60) ≡ t → written_ident (b ∷ rest) ≡ b ∷ rest
    cases true e = absurd (h (rest, ap (λ x. x ∷ rest) (eqb-true b 60 e)))
    cases false e = rw e refl

-- the time of an ident is below 2^64
pub ident_time-fits : (text : List ℕ) → IsIdent text → ident_time text < 2 ^ 64
ident_time-fits text ident =
    subst (λ n. n < 2 ^ 64)
    (sym (ap ident_time ident.4
    ∙ ident_time-of ident.0 ident.1 ident.2 ident.3)) ident.3.seconds_below_two_to_64

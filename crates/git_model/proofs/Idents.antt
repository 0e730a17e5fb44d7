-- Reading an ident from left to right finds exactly its definition.
use Rattle.std.proofs.Common.{◌≡◌, ℕ, List, [], ◌∷◌, ◌++◌, Bool, true, false, ◌==◌, ◌⊎◌, ◌^◌, Option, None, Some, Ok, Err, inl, inr, length, take, drop, refl, sym, ap, ◌∙◌, append_assoc, codes, if◌then◌else◌}
use Rattle.std.specs.Option.{option_and_then}
use Rattle.std.specs.List.{list_all, prefix_len}
use Rattle.std.specs.Char.{is_ascii_digit}
use Rattle.std.specs.Str.Parse.{digits_value}
use Rattle.std.proofs.lemmas.List.{take-append-drop}
use Rattle.std.proofs.lemmas.Bool.{and_parts, and_from, cases_Bool, eqb-true, eq-eqb, ltb-true, lt-ltb, leb-true, le-leb}
use Rattle.git_model.specs.Bytes.{EndsWith}
use Rattle.git_model.specs.Ident.{Person, person_text, is_person_byte, IsPerson, Date, date_text, is_offset, IsDate, NamesPerson, IsIdent, written_ident}
use Rattle.git_model.specs.IdentReading.{BadIdentity, BadDate, after_byte, is_name, after_name, after_email, after_person, is_spaced_offset, is_date, with_date, read_ident}
use Rattle.git_model.proofs.Texts.{ends_test}
use Rattle.git_model.proofs.Fronts.{take_front, drop_front, front_passes}

-- ---- one byte

after_byte_found : (b : ℕ) (xs rest : List ℕ) → after_byte b xs ≡ Some rest → xs ≡ b ∷ rest
after_byte_found b [] rest e = cc
after_byte_found b (x ∷ xs) rest e = elim (cases_Bool (x == b)) [
  | inl passes ↦ (let is_b = eqb-true x b passes in let rest_is = rw passes at e in cc)
  | inr fails ↦ (let none = rw fails at e in cc)
]

after_byte_only : (b : ℕ) (rest : List ℕ) → after_byte b (b ∷ rest) ≡ Some rest
after_byte_only b rest = rw (eq-eqb b b refl) refl

then_step : {A B : Type 0} (f : A → Option B) (o : Option A) (r : B) → option_and_then f o ≡ Some r
    → (x : A) × (o ≡ Some x) × (f x ≡ Some r)
then_step f None r e = cc
then_step f (Some x) r e = (x, refl, e)

-- ---- the person

name_found : (name : List ℕ) → is_name name ≡ true → (name ≡ []) ⊎ EndsWith name (codes " ")
name_found [] e = inl refl
name_found (b ∷ r) e = inr ((ends_test (b ∷ r) (codes " ")).0 e)

name_only : (name : List ℕ) → (name ≡ []) ⊎ EndsWith name (codes " ") → is_name name ≡ true
name_only [] h = refl
name_only (b ∷ r) h = elim h [ inl e ↦ cc | inr ends ↦ (ends_test (b ∷ r) (codes " ")).1 ends ]

name_step : (front back rest : List ℕ)
    → (if is_name front then after_byte 60 back else None) ≡ Some rest
    → (is_name front ≡ true) × (back ≡ 60 ∷ rest)
name_step front back rest e = elim (cases_Bool (is_name front)) [
  | inl passes ↦ (passes, after_byte_found 60 back rest (rw passes at e))
  | inr fails ↦ (let none = rw fails at e in cc)
]

after_name_found : (text rest : List ℕ) → after_name text ≡ Some rest
    → (name : List ℕ) × (is_name name ≡ true) × (list_all is_person_byte name ≡ true) ×
    (text ≡ name ++ 60 ∷ rest)
unfolding after_name
after_name_found text rest e =
    let n = prefix_len is_person_byte text in
    let step = name_step (take n text) (drop n text) rest e in (
      take n text,
      step.0,
      front_passes is_person_byte text,
      sym (take-append-drop n text) ∙ ap
          (λ l. take n text ++ l) step.1,
    )

after_name_only : (name rest : List ℕ) → is_name name ≡ true → list_all is_person_byte name ≡ true
    → after_name (name ++ 60 ∷ rest) ≡ Some rest
unfolding after_name
after_name_only name rest named plain =
    rw (take_front is_person_byte name 60 rest plain refl, drop_front is_person_byte name 60 rest plain refl, named) refl

after_email_found : (text rest : List ℕ) → after_email text ≡ Some rest
    → (email : List ℕ) × (list_all is_person_byte email ≡ true) × (text ≡ email ++ 62 ∷ 32 ∷ rest)
unfolding after_email
after_email_found text rest e =
    let n = prefix_len is_person_byte text in
    let step = then_step (after_byte 32) (after_byte 62 (drop n text)) rest e in
    let back : drop n text ≡ 62 ∷ 32 ∷ rest = after_byte_found 62 (drop n text) step.0 step.1
    ∙ ap (λ l. 62 ∷ l) (after_byte_found 32 step.0 rest step.2) in (
      take n text,
      front_passes is_person_byte text,
      sym (take-append-drop n text) ∙ ap
          (λ l. take n text ++ l) back,
    )

after_email_only : (email rest : List ℕ) → list_all is_person_byte email ≡ true
    → after_email (email ++ 62 ∷ 32 ∷ rest) ≡ Some rest
unfolding after_email
after_email_only email rest plain =
    rw (drop_front is_person_byte email 62 (32 ∷ rest) plain refl) refl

person_text-append : (person : Person) (rest : List ℕ)
    → person_text person ++ rest ≡ person.name ++ 60 ∷ (person.email ++ 62 ∷ 32 ∷ rest)
person_text-append person rest =
    append_assoc person.name (60 ∷ (person.email ++ codes "> ")) rest
    ∙ ap (λ l. person.name ++ 60 ∷ l) (append_assoc person.email (codes "> ") rest)

pub after_person_found : (text rest : List ℕ) → after_person text ≡ Some rest
    → (person : Person) × IsPerson person × (text ≡ person_text person ++ rest)
after_person_found text rest e =
    let step = then_step after_email (after_name text) rest e in
    let name = after_name_found text step.0 step.1 in
    let email = after_email_found step.0 rest step.2 in
    let person : Person = record { name = name.0; email = email.0 } in (
      person,
      record { name = name.2; name_ends_in_a_space = name_found name.0 name.1; email = email.1 },
      name.3 ∙ ap (λ l. name.0 ++ 60 ∷ l) email.2 ∙ sym (person_text-append person rest),
    )

pub after_person_only : (person : Person) (rest : List ℕ) → IsPerson person
    → after_person (person_text person ++ rest) ≡ Some rest
after_person_only person rest h =
    ap after_person (person_text-append person rest)
    ∙ ap (option_and_then after_email)
    (after_name_only person.name (person.email ++ 62 ∷ 32 ∷ rest)
    (name_only person.name h.name_ends_in_a_space) h.name)
    ∙ after_email_only person.email rest h.email

-- ---- the date

spaced_found : (xs : List ℕ) → is_spaced_offset xs ≡ true
    → (offset : List ℕ) × (xs ≡ 32 ∷ offset) × (is_offset offset ≡ true)
spaced_found [] e = cc
spaced_found (x ∷ xs) e =
    let parts = and_parts _ _ e in (xs, ap (λ b. b ∷ xs) (eqb-true x 32 parts.0), parts.1)

pub is_date_found : (text : List ℕ) → is_date text ≡ true
    → (date : Date) × IsDate date × (text ≡ date_text date)
unfolding is_date
is_date_found text e =
    let n = prefix_len is_ascii_digit text in
    let digits = take n text in
    let parts = and_parts _ _ e in
    let seconds = and_parts _ _ parts.0 in
    let count = and_parts _ _ seconds.0 in
    let after = spaced_found (drop n text) parts.1 in (
      record { seconds = digits; offset = after.0 },
      record {
        seconds_are_digits = front_passes is_ascii_digit text;
        at_least_one_digit = ltb-true 0 (length digits) count.0;
        at_most_twenty_digits = leb-true (length digits) 20 count.1;
        seconds_below_two_to_64 = ltb-true (digits_value 10 digits) (2 ^ 64) seconds.1;
        offset = after.2;
      },
      sym (take-append-drop n text) ∙ ap (λ l. digits ++ l) after.1,
    )

pub is_date_only : (date : Date) → IsDate date → is_date (date_text date) ≡ true
unfolding is_date
is_date_only date h =
    rw (
      take_front is_ascii_digit date.seconds 32 date.offset h.seconds_are_digits refl,
      drop_front is_ascii_digit date.seconds 32 date.offset h.seconds_are_digits refl,
    )
    (and_from _ _
    (and_from _ _
    (and_from _ _ (lt-ltb 0 (length date.seconds) h.at_least_one_digit)
    (le-leb (length date.seconds) 20 h.at_most_twenty_digits))
    (lt-ltb (digits_value 10 date.seconds) (2 ^ 64) h.seconds_below_two_to_64)) h.offset)

-- ---- the whole

-- what comes after the person decides whether a text is an ident
unnamed : (text : List ℕ) → after_person text ≡ None → ¬ NamesPerson text
unnamed text e named =
    let found = ap after_person named.3 ∙ after_person_only named.0 named.1 named.2 in cc

dated : (text rest : List ℕ) → after_person text ≡ Some rest → is_date rest ≡ true → IsIdent text
dated text rest e well =
    let who = after_person_found text rest e in
    let at = is_date_found rest well in
    (who.0, at.0, who.1, at.1, who.2 ∙ ap (λ l. person_text who.0 ++ l) at.2)

date_after : (text rest : List ℕ) → after_person text ≡ Some rest → IsIdent text
    → is_date rest ≡ true
date_after text rest e ident =
    let found : after_person text ≡ Some (date_text ident.1) = ap after_person ident.4
    ∙ after_person_only ident.0 (date_text ident.1) ident.2 in
    let same : rest ≡ date_text ident.1 = cc in
    ap is_date same ∙ is_date_only ident.1 ident.3

pub named_by : (text : List ℕ) → IsIdent text → NamesPerson text
named_by text ident = (ident.0, date_text ident.1, ident.2, ident.4)

-- Which of three texts a text is, beside what reading gives.
pub data IsRead (text : List ℕ) : Type 0 where
  Whole : IsIdent text → read_ident text ≡ Ok (written_ident text) → IsRead text
  Unnamed : ¬ NamesPerson text → read_ident text ≡ Err BadIdentity → IsRead text
  Undated : NamesPerson text → ¬ IsIdent text → read_ident text ≡ Err BadDate → IsRead text

with_date_of : (text rest : List ℕ) (o : Option (List ℕ)) → o ≡ Some rest → (b : Bool)
    → is_date rest ≡ b → with_date text o ≡ (if b then Ok (written_ident text) else Err BadDate)
with_date_of text rest o e b d = rw (e, d) refl

pub is_read : (text : List ℕ) → IsRead text
unfolding read_ident
is_read text = after (after_person text) refl
  where
    date : (rest : List ℕ) → after_person text ≡ Some rest → (b : Bool) → is_date rest ≡ b
        → IsRead text
    date rest e true d =
        Whole (dated text rest e d) (with_date_of text rest (after_person text) e true d)
    date rest e false d =
        let who = after_person_found text rest e in
        Undated (who.0, rest, who.1, who.2)
        (λ ident. let well = date_after text rest e ident in cc)
        (with_date_of text rest (after_person text) e false d)

    after : (o : Option (List ℕ)) → after_person text ≡ o → IsRead text
    after None e = Unnamed (unnamed text e) (ap (with_date text) e)
    after (Some rest) e = date rest e (is_date rest) refl

-- Idents, who and when: git-fast-import(1), under "committer" and under "Date Formats", raw.
use Rattle.std.specs.Prelude.{◌≡◌, ℕ, ◌<◌, ◌≤◌, ◌^◌, List, [], ◌∷◌, ◌++◌, length, codes, Bool, true, false, ◌==◌, ◌||◌, ◌&&◌, not, ◌⊎◌, if◌then◌else◌}
use Rattle.std.specs.List.{list_all}
use Rattle.std.specs.Char.{is_ascii_digit}
use Rattle.std.specs.Str.Parse.{digits_value}
use Rattle.git_model.specs.Bytes.{BeginsWith, EndsWith}

-- A person is a name, which includes the space after it, and an email. The name may be empty.
pub record Person : Type 0 where
  pub name : List ℕ
  pub email : List ℕ

-- A person's text is `name <email> ` with a space at its end.
abbrev pub person_text : Person → List ℕ
person_text person = person.name ++ (codes "<" ++ (person.email ++ codes "> "))

-- Names and emails hold any bytes but `<`, `>` and LF.
abbrev pub is_person_byte : ℕ → Bool
is_person_byte byte = not (byte == 60 || byte == 62 || byte == 10)

pub record IsPerson (person : Person) : Type 0 where
  pub name : list_all is_person_byte person.name ≡ true
  pub name_ends_in_a_space : (person.name ≡ []) ⊎ EndsWith person.name (codes " ")
  pub email : list_all is_person_byte person.email ≡ true

-- A date is the digits of the seconds since 1970, and an offset from UTC.
pub record Date : Type 0 where
  pub seconds : List ℕ
  pub offset : List ℕ

-- A date's text is `seconds offset`.
abbrev pub date_text : Date → List ℕ
date_text date = date.seconds ++ (codes " " ++ date.offset)

-- An offset is a sign and four digits of any value.
abbrev pub is_offset : List ℕ → Bool
is_offset [] = false
is_offset (sign ∷ digits) =
    (sign == 43 || sign == 45) && length digits == 4 && list_all is_ascii_digit digits

pub record IsDate (date : Date) : Type 0 where
  pub seconds_are_digits : list_all is_ascii_digit date.seconds ≡ true
  pub at_least_one_digit : 0 < length date.seconds
  pub at_most_twenty_digits : length date.seconds ≤ 20
  pub seconds_below_two_to_64 : digits_value 10 date.seconds < 2 ^ 64
  pub offset : is_offset date.offset ≡ true

-- A text names a person if it begins with a person's text.
abbrev pub NamesPerson : List ℕ → Type 0
NamesPerson text =
    (person : Person) × (rest : List ℕ) × IsPerson person × (text ≡ person_text person ++ rest)

-- An ident is a person and a date.
abbrev pub IsIdent : List ℕ → Type 0
IsIdent text = (person : Person) × (date : Date) × IsPerson person × IsDate date
    × (text ≡ person_text person ++ date_text date)

-- An ident that begins with `<` is written with one space before it; every other ident stays as it
-- is.
abbrev pub written_ident : List ℕ → List ℕ
written_ident [] = []
written_ident (byte ∷ rest) = if byte == 60 then 32 ∷ byte ∷ rest else byte ∷ rest

-- Objects have only idents that do not begin with `<`.
abbrev pub IsWrittenIdent : List ℕ → Type 0
IsWrittenIdent text = IsIdent text × ¬ BeginsWith text (codes "<")

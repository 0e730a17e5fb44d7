-- The time of a commit that can be written is that of its committer.
use Rattle.std.proofs.Common.{◌≡◌, ℕ, suc, ◌<◌, ◌+◌, ◌==◌, true, false, ◌||◌, List, [], ◌∷◌, ◌++◌, length, map, take, drop, refl, sym, ap, subst, ◌∙◌, append_assoc, codes, inl, inr, arith}
use Rattle.std.specs.Prelude.{min}
use Rattle.std.specs.List.{list_all, list_any, prefix_len}
use Rattle.std.specs.Char.{is_ascii_digit}
use Rattle.std.specs.Str.Parse.{digits_value}
use Rattle.std.proofs.Math.Nat.{min-eq_left}
use Rattle.std.proofs.lemmas.Bool.{and_parts, cases_Bool, eqb-true, false≢true, ne_eqb}
use Rattle.std.proofs.lemmas.List.Folds.{list_any-append}
use Rattle.hex.specs.Hex.{encode_lower}
use Rattle.git_model.specs.Commit.{Commit, CanWriteCommit, commit_contents}
use Rattle.git_model.specs.CommitReading.{commit_time, lines_after_parents, time_in_lines, time_of}
use Rattle.git_model.specs.HeaderReading.{header_lines}
use Rattle.git_model.specs.Ident.{Person, person_text, Date, date_text, IsDate, is_offset, IsIdent}
use Rattle.git_model.specs.IdentReading.{after_last_email, ends_email, ident_time, line_time, most_seconds, without_blanks}
use Rattle.git_model.proofs.CommitReadings.{parent_text, last_lines, lines_of, lines_are, parents_are_led, text_is}
use Rattle.git_model.proofs.Fronts.{take_front}
use Rattle.git_model.proofs.HeaderLines.{lines_text, lines_back}
use Rattle.git_model.proofs.IdentLaws.{ident_time-of}

-- ---- the lines after the parents' are the author's and the committer's

dropped : (text : List ℕ) (parents : List (List ℕ)) (lines : List (List ℕ))
    → drop (length (map encode_lower parents) + 1) (text ∷ map parent_text parents ++ lines) ≡ lines
dropped text [] lines = refl
dropped text (parent ∷ parents) lines =
    let one : suc (length (map encode_lower parents)) + 1 ≡ suc (length (map encode_lower parents) + 1) =
    omega arith in
    ap (λ (n : ℕ). drop n (text ∷ parent_text parent ∷ map parent_text parents ++ lines)) one
    ∙ dropped (parent_text parent) parents lines

last_are : (c : Commit) → CanWriteCommit c → lines_after_parents (commit_contents c) ≡ last_lines c
last_are c h =
    ap lines_after_parents (text_is c)
    ∙ ap (λ (values : List (List ℕ)). drop (length values + 1) (header_lines (lines_text (lines_of c) c.message)))
    (parents_are_led c h)
    ∙ ap (λ (lines : List (List ℕ)). drop (length (map encode_lower c.parents) + 1) lines)
    (lines_back (lines_of c) c.message (lines_are c h))
    ∙ dropped (codes "tree " ++ encode_lower c.tree) c.parents (last_lines c)

-- ---- a date has no `>`, and begins with a digit

-- A digit is no byte that is none.
no_digit : (n b : ℕ) → is_ascii_digit n ≡ false → is_ascii_digit b ≡ true → (b == n) ≡ false
no_digit n b other is =
    ne_eqb b n (λ e. false≢true (sym other ∙ subst (λ (x : ℕ). is_ascii_digit x ≡ true) e is))

digits_plain : (digits : List ℕ) → list_all is_ascii_digit digits ≡ true
    → list_any ends_email digits ≡ false
digits_plain [] all = refl
digits_plain (b ∷ digits) all =
    let parts = and_parts _ _ all in rw (no_digit 62 b refl parts.0, digits_plain digits parts.1) refl

offset_plain : (offset : List ℕ) → is_offset offset ≡ true → list_any ends_email offset ≡ false
offset_plain [] is = refl
offset_plain (sign ∷ digits) is =
    let parts = and_parts _ _ is in
    let signs = and_parts _ _ parts.0 in
    rw (sign_plain sign signs.0, digits_plain digits parts.1) refl
  where
    sign_plain : (b : ℕ) → (b == 43 || b == 45) ≡ true → ends_email b ≡ false
    sign_plain b is = elim (cases_Bool (ends_email b)) [
      | inl yea ↦ (let e : b ≡ 62 = eqb-true b 62 yea in let never = subst (λ (x : ℕ). (x == 43 || x == 45) ≡ true) e is in cc)
      | inr nay ↦ nay
    ]

date_plain : (date : Date) → IsDate date → list_any ends_email (date_text date) ≡ false
date_plain date d =
    list_any-append ends_email date.seconds (codes " " ++ date.offset)
    ∙ rw (digits_plain date.seconds d.seconds_are_digits, offset_plain date.offset d.offset) refl

-- ---- what stands after the last `>`

there : (xs rest : List ℕ) → list_any ends_email (xs ++ 62 ∷ rest) ≡ true
there [] rest = refl
there (x ∷ xs) rest = elim (cases_Bool (ends_email x)) [
  | inl yea ↦ rw yea refl
  | inr nay ↦ rw (nay, there xs rest) refl
]

after_last : (xs rest : List ℕ) → list_any ends_email rest ≡ false
    → after_last_email (xs ++ 62 ∷ rest) ≡ rest
unfolding after_last_email
after_last [] rest none = rw none refl
after_last (x ∷ xs) rest none = rw (there xs rest) (after_last xs rest none)

-- ---- the time in a committer's line

not_blank : (digits rest : List ℕ) → 0 < length digits → list_all is_ascii_digit digits ≡ true
    → without_blanks (32 ∷ digits ++ rest) ≡ digits ++ rest
not_blank [] rest some all = absurd (omega arith)
not_blank (b ∷ digits) rest some all =
    let digit = (and_parts _ _ all).0 in
    rw (no_digit 32 b refl digit, no_digit 9 b refl digit, no_digit 13 b refl digit) refl

regrouped : (word name email date : List ℕ)
    → word ++ ((name ++ (codes "<" ++ (email ++ codes "> "))) ++ date)
    ≡ (word ++ (name ++ (codes "<" ++ email))) ++ 62 ∷ 32 ∷ date
regrouped word name email date = simp append_assoc

line_is : (word : List ℕ) (person : Person) (date : Date) → IsDate date
    → line_time (word ++ (person_text person ++ date_text date)) ≡ digits_value 10 date.seconds
unfolding line_time
line_is word person date d =
    ap line_time (regrouped word person.name person.email (date_text date))
    ∙ ap (λ (text : List ℕ). seconds_in (without_blanks text))
    (after_last (word ++ (person.name ++ (codes "<" ++ person.email))) (32 ∷ date_text date) (date_plain date d))
    ∙ ap seconds_in (not_blank date.seconds (codes " " ++ date.offset) d.at_least_one_digit d.seconds_are_digits)
    ∙ ap (λ (digits : List ℕ). min (digits_value 10 digits) most_seconds)
    (take_front is_ascii_digit date.seconds 32 date.offset d.seconds_are_digits refl)
    ∙ min-eq_left (let below = d.seconds_below_two_to_64 in omega arith)
  where
    seconds_in : List ℕ → ℕ
    seconds_in date = min (digits_value 10 (take (prefix_len is_ascii_digit date) date)) most_seconds

ident_is : (word text : List ℕ) → IsIdent text → line_time (word ++ text) ≡ ident_time text
ident_is word text (person, date, p, d, is) =
    ap (λ (t : List ℕ). line_time (word ++ t)) is ∙ line_is word person date d
    ∙ sym (ap ident_time is ∙ ident_time-of person date p d)

pub time_back : (c : Commit) → CanWriteCommit c → time_of (commit_contents c) ≡ commit_time c
unfolding time_of
time_back c h =
    ap time_in_lines (last_are c h) ∙ ident_is (codes "committer ") c.committer h.committer.0

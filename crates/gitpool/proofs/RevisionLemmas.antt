-- What a byte, and a line, adds to what a text asks for.
use Rattle.std.proofs.Common.{◌≡◌, ◌∙◌, ◌&&◌, ◌==◌, ℕ, cond, true, false, true≢false, refl, sym, ap, ap₂, subst, List, [], ◌∷◌, ◌++◌, length, append_assoc, append-nil, arith, filter_map, Option, Some, None, Result, Ok, Err}
use Rattle.std.proofs.lemmas.Bool.{eqb-true}
use Rattle.std.specs.List.{cons_option, list_all}
use Rattle.gitpool.specs.Revisions.{have_in, is_revision, lines_from, want_in}
use Rattle.gitpool.specs.RevisionReading.{Asking, AsksSame, Names, TakesByte, TakesBytes, TakesLast, TakesLine, TakesText, and_maybe, asking, haves_from, is_good_from, wants_from}
use Rattle.pack_objects.specs.declared.fault.PackFault.{PackFault}
use Rattle.pack_objects.specs.declared.fault.PackFault.TheVariants as fault

goes_on : (byte : ℕ) (line text : List ℕ) → (byte == 10) ≡ false → lines_from line (byte ∷ text) ≡ lines_from (line ++ byte ∷ []) text
unfolding lines_from
goes_on byte line text is = ap (λ b. cond b (line ∷ lines_from [] text) (lines_from (line ++ byte ∷ []) text)) is

ends : (byte : ℕ) (line text : List ℕ) → (byte == 10) ≡ true → lines_from line (byte ∷ text) ≡ line ∷ lines_from [] text
unfolding lines_from
ends byte line text is = ap (λ b. cond b (line ∷ lines_from [] text) (lines_from (line ++ byte ∷ []) text)) is

and_maybe_append : (names : Names) (found : Option (List ℕ)) (later : Names) → and_maybe names found ++ later ≡ names ++ cons_option found later
and_maybe_append names None later = refl
and_maybe_append names (Some id) later = append_assoc names (id ∷ []) later

-- a byte within a line
pub line_goes_on : (byte : ℕ) (line line' : List ℕ) (wants haves : Names) → (byte == 10) ≡ false → line' ≡ line ++ byte ∷ []
    → (rest : List ℕ) → AsksSame (asking line wants haves) (byte ∷ rest) (asking line' wants haves) rest
line_goes_on byte line line' wants haves is grown rest =
    let same : lines_from line (byte ∷ rest) ≡ lines_from line' rest = goes_on byte line rest is ∙ ap (λ l. lines_from l rest) (sym grown) in record {
      good = ap (list_all is_revision) same;
      wants = ap (λ ls. wants ++ filter_map want_in ls) same;
      haves = ap (λ ls. haves ++ filter_map have_in ls) same;
    }

-- the end of a line that is a revision
pub line_ends : (byte : ℕ) (line line' : List ℕ) (wants haves wants' haves' : Names) → (byte == 10) ≡ true → line' ≡ [] → is_revision line ≡ true
    → wants' ≡ and_maybe wants (want_in line) → haves' ≡ and_maybe haves (have_in line) → (rest : List ℕ)
    → AsksSame (asking line wants haves) (byte ∷ rest) (asking line' wants' haves') rest
line_ends byte line line' wants haves wants' haves' is empty good w h rest =
    let same = ends byte line rest is in
    let later : lines_from [] rest ≡ lines_from line' rest = ap (λ l. lines_from l rest) (sym empty) in record {
      good = ap (list_all is_revision) same ∙ ap (λ b. b && list_all is_revision (lines_from [] rest)) good ∙ ap (list_all is_revision) later;
      wants = ap (λ ls. wants ++ filter_map want_in ls) same ∙ sym (and_maybe_append wants (want_in line) (filter_map want_in (lines_from [] rest)))
          ∙ ap₂ (λ ws ls. ws ++ filter_map want_in ls) (sym w) later;
      haves = ap (λ ls. haves ++ filter_map have_in ls) same ∙ sym (and_maybe_append haves (have_in line) (filter_map have_in (lines_from [] rest)))
          ∙ ap₂ (λ hs ls. hs ++ filter_map have_in ls) (sym h) later;
    }

-- the end of a line that is none
pub line_is_bad : (byte : ℕ) (line : List ℕ) (wants haves : Names) → (byte == 10) ≡ true → is_revision line ≡ false → (rest : List ℕ)
    → is_good_from (asking line wants haves) (byte ∷ rest) ≡ false
line_is_bad byte line wants haves is bad rest =
    ap (list_all is_revision) (ends byte line rest is) ∙ ap (λ b. b && list_all is_revision (lines_from [] rest)) bad

-- ---- one byte after another

pub same_refl : (a : Asking) (text : List ℕ) → AsksSame a text a text
same_refl a text = record { good = refl; wants = refl; haves = refl }

pub same_more : (start : Asking) (text : List ℕ) (old : Asking) (left : List ℕ) (byte : ℕ) (rest : List ℕ) (new : Asking) → left ≡ byte ∷ rest
    → AsksSame start text old left → ((later : List ℕ) → AsksSame old (byte ∷ later) new later) → AsksSame start text new rest
same_more start text old left byte rest new is before step = record {
  good = before.good ∙ ap (is_good_from old) is ∙ (step rest).good;
  wants = before.wants ∙ ap (wants_from old) is ∙ (step rest).wants;
  haves = before.haves ∙ ap (haves_from old) is ∙ (step rest).haves;
}

-- ---- refusals

pub byte_refused : (byte : ℕ) (line given : List ℕ) (wants haves wants' haves' : Names) (new : Asking) (e : PackFault) → (byte == 10) ≡ true → given ≡ line
    → TakesLine given wants haves (Err e) wants' haves' → TakesByte byte (asking line wants haves) (Err e) new
byte_refused byte line given wants haves wants' haves' new fault.UnknownObject is same bad = line_is_bad byte line wants haves is (ap is_revision (sym same) ∙ bad)
byte_refused byte line given wants haves wants' haves' new fault.Limit is same gone = gone
byte_refused byte line given wants haves wants' haves' new fault.BadTenantName is same gone = gone
byte_refused byte line given wants haves wants' haves' new fault.Device is same gone = gone
byte_refused byte line given wants haves wants' haves' new fault.Memory is same gone = gone

pub bytes_refused : (start : Asking) (text : List ℕ) (old : Asking) (left : List ℕ) (byte : ℕ) (rest : List ℕ) (new new' : Asking) (e : PackFault) → left ≡ byte ∷ rest
    → AsksSame start text old left → TakesByte byte old (Err e) new → TakesBytes text start (Err e) new'
bytes_refused start text old left byte rest new new' fault.UnknownObject is before bad = before.good ∙ ap (is_good_from old) is ∙ bad rest
bytes_refused start text old left byte rest new new' fault.Limit is before gone = gone
bytes_refused start text old left byte rest new new' fault.BadTenantName is before gone = gone
bytes_refused start text old left byte rest new new' fault.Device is before gone = gone
bytes_refused start text old left byte rest new new' fault.Memory is before gone = gone

pub text_refused : (text start : List ℕ) (wants haves wants' haves' : Names) (new : Asking) (e : PackFault) → start ≡ []
    → TakesBytes text (asking start wants haves) (Err e) new → TakesText text wants haves (Err e) wants' haves'
text_refused text start wants haves wants' haves' new fault.UnknownObject is bad = ap (λ l. is_good_from (asking l wants haves) text) (sym is) ∙ bad
text_refused text start wants haves wants' haves' new fault.Limit is gone = gone
text_refused text start wants haves wants' haves' new fault.BadTenantName is gone = gone
text_refused text start wants haves wants' haves' new fault.Device is gone = gone
text_refused text start wants haves wants' haves' new fault.Memory is gone = gone

-- ---- the last line

pub last_empty : (line : List ℕ) (wants haves : Names) (u : Unit {0}) → (length line == 0) ≡ true → TakesLast (asking line wants haves) (Ok u) wants haves
unfolding lines_from
last_empty [] wants haves u none = (refl, sym (append-nil wants), sym (append-nil haves))
last_empty (byte ∷ line) wants haves u none = let empty : length (byte ∷ line) ≡ 0 = eqb-true (length (byte ∷ line)) 0 none in absurd (omega (arith, empty))

pub last_taken : (line : List ℕ) (wants haves wants' haves' : Names) (r : Result Unit PackFault) → (length line == 0) ≡ false
    → TakesLine line wants haves r wants' haves' → TakesLast (asking line wants haves) r wants' haves'
unfolding lines_from
last_taken [] wants haves wants' haves' r some takes = absurd (true≢false some)
last_taken (byte ∷ line) wants haves wants' haves' (Ok u) some takes = (
  ap (λ b. b && true) takes.0,
  takes.1 ∙ only wants (want_in (byte ∷ line)),
  takes.2 ∙ only haves (have_in (byte ∷ line)),
)
  where
    only : (names : Names) (found : Option (List ℕ)) → and_maybe names found ≡ names ++ cons_option found []
    only names found = sym (append-nil (and_maybe names found)) ∙ and_maybe_append names found []
last_taken (byte ∷ line) wants haves wants' haves' (Err fault.UnknownObject) some bad = ap (λ b. b && true) bad
last_taken (byte ∷ line) wants haves wants' haves' (Err fault.Limit) some gone = gone
last_taken (byte ∷ line) wants haves wants' haves' (Err fault.BadTenantName) some gone = gone
last_taken (byte ∷ line) wants haves wants' haves' (Err fault.Device) some gone = gone
last_taken (byte ∷ line) wants haves wants' haves' (Err fault.Memory) some gone = gone

-- the last line after all bytes
after_bytes : (text : List ℕ) (wants haves : Names) (between : Asking) (wants' haves' : Names) (r : Result Unit PackFault)
    → AsksSame (asking [] wants haves) text between [] → TakesLast between r wants' haves' → TakesText text wants haves r wants' haves'
after_bytes text wants haves between wants' haves' (Ok u) same last = (same.good ∙ last.0, last.1 ∙ sym same.wants, last.2 ∙ sym same.haves)
after_bytes text wants haves between wants' haves' (Err fault.UnknownObject) same bad = same.good ∙ bad
after_bytes text wants haves between wants' haves' (Err fault.Limit) same gone = gone
after_bytes text wants haves between wants' haves' (Err fault.BadTenantName) same gone = gone
after_bytes text wants haves between wants' haves' (Err fault.Device) same gone = gone
after_bytes text wants haves between wants' haves' (Err fault.Memory) same gone = gone

pub text_taken : (text start line given : List ℕ) (wants haves wants1 haves1 wants' haves' : Names) (r : Result Unit PackFault) → start ≡ [] → given ≡ line
    → AsksSame (asking start wants haves) text (asking line wants1 haves1) [] → TakesLast (asking given wants1 haves1) r wants' haves'
    → TakesText text wants haves r wants' haves'
text_taken text start line given wants haves wants1 haves1 wants' haves' r none is same last =
    after_bytes text wants haves (asking line wants1 haves1) wants' haves' r
    (subst (λ l. AsksSame (asking l wants haves) text (asking line wants1 haves1) []) none same)
    (subst (λ l. TakesLast (asking l wants1 haves1) r wants' haves') is last)

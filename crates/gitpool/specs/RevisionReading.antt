-- What the functions that read revisions leave: one line, the lines of a text, and the text itself.
use Rattle.std.specs.Prelude.{◌≡◌, ◌≤◌, ℕ, Bool, true, false, List, [], ◌∷◌, ◌++◌, filter_map, length, Option, None, Some, Result, Ok, Err}
use Rattle.std.specs.List.{list_all}
use Rattle.byte_devices.specs.Device.{Device}
use Rattle.byte_devices.specs.Reading.{HasReadAll}
use Rattle.pack_objects.specs.declared.fault.PackFault.{PackFault}
use Rattle.pack_objects.specs.declared.fault.PackFault.TheVariants as fault
use Rattle.gitpool.specs.Packs.{StopsText}
use Rattle.gitpool.specs.Revisions.{are_revisions, have_in, haves_in, is_revision, lines_from, text_limit, want_in, wants_in}

-- The names of a list, or none.
abbrev pub Names : Type 0
Names = List (List ℕ)

-- A list with one more name, if there is one.
abbrev pub and_maybe : Names → Option (List ℕ) → Names
and_maybe names None = names
and_maybe names (Some id) = names ++ id ∷ []

-- A name was added, if there is one; or memory ran out.
abbrev pub AddsName : Option (List ℕ) → Names → Result Unit PackFault → Names → Type 0
AddsName found names (Ok u) names' = (id : List ℕ) × (found ≡ Some id) × (names' ≡ names ++ id ∷ [])
AddsName found names (Err fault.UnknownObject) names' = found ≡ None
AddsName found names (Err refusal) names' = refusal ≡ fault.Memory

-- A line was taken; or it is no revision; or memory ran out.
abbrev pub TakesLine : List ℕ → Names → Names → Result Unit PackFault → Names → Names → Type 0
TakesLine line wants haves (Ok u) wants' haves' = (is_revision line ≡ true)
    × (wants' ≡ and_maybe wants (want_in line)) × (haves' ≡ and_maybe haves (have_in line))
TakesLine line wants haves (Err fault.UnknownObject) wants' haves' = is_revision line ≡ false
TakesLine line wants haves (Err refusal) wants' haves' = refusal ≡ fault.Memory

-- A state between two bytes: the bytes of the line so far, and the names of the lines before it.
pub record Asking : Type 0 where
  pub line : List ℕ
  pub wants : Names
  pub haves : Names

abbrev pub asking : List ℕ → Names → Names → Asking
asking line wants haves = record { line = line; wants = wants; haves = haves }

-- Whether all later lines are revisions if this text follows.
abbrev pub is_good_from : Asking → List ℕ → Bool
is_good_from state text = list_all is_revision (lines_from state.line text)

-- All wants and all haves if this text follows.
abbrev pub wants_from : Asking → List ℕ → Names
wants_from state text = state.wants ++ filter_map want_in (lines_from state.line text)

abbrev pub haves_from : Asking → List ℕ → Names
haves_from state text = state.haves ++ filter_map have_in (lines_from state.line text)

-- Two states, each with the text that follows, ask for the same.
pub record AsksSame (old : Asking) (text : List ℕ) (new : Asking) (rest : List ℕ) : Type 0 where
  pub good : is_good_from old text ≡ is_good_from new rest
  pub wants : wants_from old text ≡ wants_from new rest
  pub haves : haves_from old text ≡ haves_from new rest

-- A byte was taken; or with it, whatever follows, a line is no revision; or memory ran out.
abbrev pub TakesByte : ℕ → Asking → Result Unit PackFault → Asking → Type 0
TakesByte byte old (Ok u) new = (rest : List ℕ) → AsksSame old (byte ∷ rest) new rest
TakesByte byte old (Err fault.UnknownObject) new = (rest : List ℕ)
    → is_good_from old (byte ∷ rest) ≡ false
TakesByte byte old (Err refusal) new = refusal ≡ fault.Memory

-- The same of the bytes of a text after which nothing follows.
abbrev pub TakesBytes : List ℕ → Asking → Result Unit PackFault → Asking → Type 0
TakesBytes text old (Ok u) new = AsksSame old text new []
TakesBytes text old (Err fault.UnknownObject) new = is_good_from old text ≡ false
TakesBytes text old (Err refusal) new = refusal ≡ fault.Memory

-- The last line was taken, if it is not empty.
abbrev pub TakesLast : Asking → Result Unit PackFault → Names → Names → Type 0
TakesLast old (Ok u) wants haves = (is_good_from old [] ≡ true)
    × (wants ≡ wants_from old []) × (haves ≡ haves_from old [])
TakesLast old (Err fault.UnknownObject) wants haves = is_good_from old [] ≡ false
TakesLast old (Err refusal) wants haves = refusal ≡ fault.Memory

-- The lines of a text were taken; or one is no revision; or memory ran out.
abbrev pub TakesText : List ℕ → Names → Names → Result Unit PackFault → Names → Names → Type 0
TakesText text wants haves (Ok u) wants' haves' = (are_revisions text ≡ true)
    × (wants' ≡ wants ++ wants_in text) × (haves' ≡ haves ++ haves_in text)
TakesText text wants haves (Err fault.UnknownObject) wants' haves' = are_revisions text ≡ false
TakesText text wants haves (Err refusal) wants' haves' = refusal ≡ fault.Memory

-- The whole text was read; or the reading stopped.
abbrev pub ReadsText : Device → Result Unit PackFault → Device → List ℕ → Type 0
ReadsText reader (Ok u) reader' text = HasReadAll reader reader' text × (length text ≤ text_limit)
ReadsText reader (Err refusal) reader' text = StopsText reader reader' refusal

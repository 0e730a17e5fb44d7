-- How a path is read from a line, from left to right, with the first fault that is found.
use Rattle.std.specs.Prelude.{◌≡◌, ℕ, ◌+◌, Bool, ◌&&◌, ◌==◌, nat_lt, nat_le, if◌then◌else◌, List, [], ◌∷◌, take, drop}
use Rattle.std.specs.Prelude.{position, Option, Some, None, Result, Ok, Err}
use Rattle.std.specs.Borrow.{Bor}
use Rattle.std.specs.Option.{option_map}
use Rattle.git_paths.specs.declared.place.Place.{Place}
use Rattle.git_paths.specs.declared.place.Place.TheVariants.{Source, Last}
use Rattle.git_paths.specs.declared.fault.Fault.{Fault}
use Rattle.git_paths.specs.declared.fault.Fault.TheVariants.{BadPath, Limit}
use Rattle.git_paths.specs.Paths.{components_of, is_path, is_within_limits}
use Rattle.git_paths.specs.Quoting.{byte_of_letter, octal_value}

-- bytes that were read, and the rest after them, if the text is good so far
abbrev pub Parts : Type 0
Parts = Option (List ℕ × List ℕ)

-- ---- between quotes

-- one more byte before what was read
abbrev pub before : ℕ → Parts → Parts
before b None = None
before b (Some (bytes, rest)) = Some (b ∷ bytes, rest)

-- the byte of a letter and then what follows, or what the octal digits give if it is no letter
abbrev pub by_letter : Option ℕ → Parts → Parts → Parts
by_letter (Some b) after digits = before b after
by_letter None after digits = digits

-- whether a byte is an octal digit, and whether three of them mean a byte
abbrev pub is_octal : ℕ → Bool
is_octal digit = nat_le 48 digit && nat_lt digit 56

abbrev pub are_octal : ℕ → ℕ → ℕ → Bool
are_octal x y z = is_octal x && is_octal y && is_octal z && nat_lt (octal_value x y z) 256

-- the bytes up to the closing quote, and the text after it
unfoldable mutual
  pub unquoted : List ℕ → Parts
  unquoted [] = None
  unquoted (b ∷ text) =
      if b == 34 then Some ([], text) else if b == 92 then escaped text
      else before b (unquoted text)

  -- the same after a backslash
  pub escaped : List ℕ → Parts
  escaped [] = None
  escaped (c ∷ text) = by_letter (byte_of_letter c) (unquoted text) (octals c text)

  -- the same after a backslash and a byte that is no letter
  pub octals : ℕ → List ℕ → Parts
  octals x [] = None
  octals x (y ∷ []) = None
  octals x (y ∷ z ∷ text) = if are_octal x y z then before (octal_value x y z) (unquoted text)
      else None

-- A byte was taken from a text and left a rest: reading the text gives the byte, and then what
-- reading the rest gives.
abbrev pub TakesByte : Option (ℕ × Bor (List ℕ)) → Parts → Type 0
TakesByte None read = read ≡ None
TakesByte (Some (b, rest)) read = read ≡ before b (unquoted rest.now)

-- ---- at a place

-- the rest of a text after a quoted path
abbrev pub after_quote : Place → List ℕ → Option (List ℕ)
after_quote Source [] = None
after_quote Source (b ∷ rest) = if b == 32 then Some rest else None
after_quote Last [] = Some []
after_quote Last (b ∷ rest) = None

abbrev pub with_rest : List ℕ → Option (List ℕ) → Parts
with_rest bytes rest = option_map (λ r. (bytes, r)) rest

-- the bytes of a quoted path, from what was read up to its closing quote
abbrev pub quoted_end : Place → Parts → Parts
quoted_end place None = None
quoted_end place (Some (bytes, remaining)) = with_rest bytes (after_quote place remaining)

-- the bytes of an unquoted path
abbrev pub unquoted_at : Place → List ℕ → Parts
unquoted_at Source text = option_map (λ at. (take at text, drop (at + 1) text))
    (position (λ b. b == 32) text)
unquoted_at Last text = Some (text, [])

-- the bytes of the path that a text begins with
unfoldable pub bytes_at : Place → List ℕ → Parts
bytes_at place [] = unquoted_at place []
bytes_at place (b ∷ text) =
    if b == 34 then quoted_end place (unquoted text) else unquoted_at place (b ∷ text)

-- ---- as a path

-- the path with some bytes, or the first rule that they break
unfoldable pub path_within_limits : List ℕ → Result (List (List ℕ)) Fault
path_within_limits bytes =
    if is_path (components_of bytes)
    then (if is_within_limits (components_of bytes) then Ok (components_of bytes) else Err Limit)
    else Err BadPath

abbrev pub path_and_rest : Result (List (List ℕ)) Fault → List ℕ
    → Result (List (List ℕ) × List ℕ) Fault
path_and_rest (Ok path) rest = Ok (path, rest)
path_and_rest (Err e) rest = Err e

abbrev pub judged : Parts → Result (List (List ℕ) × List ℕ) Fault
judged None = Err BadPath
judged (Some (bytes, rest)) = path_and_rest (path_within_limits bytes) rest

-- the path that a text begins with and the rest after it, or the fault
abbrev pub path_at : Place → List ℕ → Result (List (List ℕ) × List ℕ) Fault
path_at place text = judged (bytes_at place text)

-- the path with some bytes, which are never quoted: gitrevisions(7), `<rev>:<path>`
unfoldable pub canonical_path : List ℕ → Option (List (List ℕ))
canonical_path bytes = if is_path (components_of bytes) then Some (components_of bytes) else None

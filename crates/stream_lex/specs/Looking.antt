-- What the lexer finds first in the bytes whose item was not given yet, and what it knows of them.
use Rattle.std.specs.Prelude.{◌≡◌, ℕ, ◌+◌, ◌-◌, ◌<◌, ◌≤◌, true, false, List, ◌++◌, length, take, drop, option_map}
use Rattle.stream_lex.specs.declared.item.Item.{Item as Lent}
use Rattle.stream_lex.specs.declared.item.Item.TheVariants.{Line as LentLine, Data as LentData, Blank as LentBlank}
use Rattle.stream_lex.specs.declared.place.Place.{Place}
use Rattle.stream_lex.specs.declared.place.Place.TheVariants.{Line as AtLine, Counted as InCounted, Delimited as InDelimited, Failed as HasFailed}
use Rattle.stream_lex.specs.declared.look.Found.{Found}
use Rattle.stream_lex.specs.declared.look.Found.TheVariants.{Waits, Skips as Passes, Gives as Lends, Fails}
use Rattle.stream_lex.specs.Items.{Item, Line, Data, Blank, Tail, Rest, Failed}
use Rattle.stream_lex.specs.Headers.{HasNoLineEnd, delimiter_of}
use Rattle.stream_lex.specs.Reading.{First, Stops, Skips, Gives, is_data, first_of, counted_data, data_before, before_delimiter}
use Rattle.stream_lex.specs.Running.{Takes, ReadsAlike, HasNoItem}

-- An item without where its bytes lie.
abbrev pub item_of : Lent → Item
item_of (LentLine text) = Line text.now
item_of (LentData raw) = Data raw.now
item_of LentBlank = Blank

-- The tail at a place: the bytes whose item was not given yet, or a fault.
abbrev pub tail_at : List ℕ → Place → Tail
tail_at bytes (AtLine after_data) = Rest after_data bytes
tail_at bytes (InCounted header size) = Rest false bytes
tail_at bytes (InDelimited header line) = Rest false bytes
tail_at bytes (HasFailed fault) = Failed fault

-- What was found, as what comes at the beginning of a line.
abbrev pub first_found : List ℕ → Found → First
first_found bytes (Waits place) = Stops (Rest false bytes)
first_found bytes (Passes n) = Skips n
first_found bytes (Lends item n) = Gives (item_of item) n
first_found bytes (Fails fault) = Stops (Failed fault)

-- What comes first after the header of a delimited data, if no line before the byte at `line` is
-- the delimiter.
abbrev pub delimited_from : ℕ → ℕ → List ℕ → First
delimited_from header line bytes =
    let delimiter = delimiter_of (take (header - 1) bytes) in
    let later = before_delimiter delimiter true (drop line bytes) in
    data_before (option_map (λ n. line - header + n) later) delimiter header bytes

-- The bytes begin with a header of `header` bytes, which counts the data after it.
pub record IsInCounted (bytes : List ℕ) (header size : ℕ) : Type 0 where
  pub inside : header ≤ length bytes
  pub some : 0 < header
  pub leads : (more : List ℕ) → first_of (bytes ++ more) ≡ counted_data size header (bytes ++ more)

-- The bytes begin with a header of `header` bytes, which names a delimiter. No line before the byte
-- at `line` is the delimiter, and the bytes that were seen from there on have no line end.
pub record IsInDelimited (bytes : List ℕ) (seen header line : ℕ) : Type 0 where
  pub delimiter : 8 ≤ header
  pub header_line : HasNoLineEnd (take (header - 1) bytes)
  pub lines : header ≤ line
  pub seen_on : line ≤ seen
  pub line_so_far : HasNoLineEnd (take (seen - line) (drop line bytes))
  pub leads : (more : List ℕ)
      → first_of (bytes ++ more) ≡ delimited_from header line (bytes ++ more)

-- What a place says about the bytes, of which `seen` were seen, is true whatever bytes come.
abbrev pub IsPlaced : List ℕ → ℕ → Place → Type 0
IsPlaced bytes seen (AtLine after_data) =
    HasNoLineEnd (take seen bytes) × (after_data ≡ true → seen ≡ 0)
IsPlaced bytes seen (InCounted header size) = IsInCounted bytes header size × (seen ≤ header)
IsPlaced bytes seen (InDelimited header line) = IsInDelimited bytes seen header line
IsPlaced bytes seen (HasFailed fault) = Unit {0}

-- If more bytes have to come, the new place is true of the bytes; what is taken was seen.
abbrev pub IsFoundPlaced : List ℕ → ℕ → Found → Type 0
IsFoundPlaced bytes seen (Waits place) = IsPlaced bytes seen place
IsFoundPlaced bytes seen (Passes n) = seen ≤ n
IsFoundPlaced bytes seen (Lends item n) = seen ≤ n
IsFoundPlaced bytes seen (Fails fault) = Unit {0}

-- If more bytes have to come, all bytes are left.
abbrev pub WaitsWithAll : List ℕ → Found → Type 0
WaitsWithAll bytes (Waits place) = tail_at bytes place ≡ Rest false bytes
WaitsWithAll bytes (Passes n) = Unit {0}
WaitsWithAll bytes (Lends item n) = Unit {0}
WaitsWithAll bytes (Fails fault) = Unit {0}

-- What was found comes next from the place on, whatever bytes come.
abbrev pub IsNext : List ℕ → Place → Found → Type 0
IsNext bytes place (Waits next) =
    ReadsAlike (tail_at bytes place) (tail_at bytes next) × HasNoItem (tail_at bytes next)
IsNext bytes place (Passes n) =
    (0 < n) × (n ≤ length bytes)
    × ReadsAlike (tail_at bytes place) (Rest false (drop n bytes))
IsNext bytes place (Lends item n) =
    (0 < n) × (n ≤ length bytes)
    × Takes (tail_at bytes place) (item_of item) (Rest (is_data (item_of item)) (drop n bytes))
IsNext bytes place (Fails fault) = ReadsAlike (tail_at bytes place) (Failed fault)

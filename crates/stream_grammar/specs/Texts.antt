-- The words of a line: git-fast-import(1), "mark", "get-mark" and "cat-blob".
use Rattle.std.specs.Prelude.{ℕ, ◌+◌, ◌==◌, Bool, if◌then◌else◌, List, [], ◌∷◌, take, drop}
use Rattle.std.specs.Prelude.{Option, Some, None, Result, Ok, Err}
use Rattle.std.specs.List.{position_from}
use Rattle.std.specs.Option.{option_map}
use Rattle.hex.specs.declared.error.FromHexError.{FromHexError}
use Rattle.hex.specs.Hex.{decode_sized}
use Rattle.numerals.specs.Numbers.{number_of}
use Rattle.stream_grammar.specs.declared.fault.Fault.{Fault}
use Rattle.stream_grammar.specs.declared.fault.Fault.TheVariants as fault
use Rattle.stream_grammar.specs.declared.data_ref.DataRef.{DataRef}
use Rattle.stream_grammar.specs.declared.data_ref.DataRef.TheVariants as data_ref

-- A text is read from left to right, and the first part that fails decides the fault.
abbrev pub read : {A B : Type 0} → Result A Fault → (A → Result B Fault) → Result B Fault
read (Ok value) next = next value
read (Err e) next = Err e

-- The byte is a space.
abbrev pub is_space : ℕ → Bool
is_space byte = byte == 32

-- The text after an index; an empty text if there is no index.
abbrev pub after_index : Option ℕ → List ℕ → List ℕ
after_index None text = []
after_index (Some index) text = drop (index + 1) text

-- The text after the first space of a line; an empty text if it has no space.
abbrev pub argument : List ℕ → List ℕ
argument text = after_index (position_from is_space 0 text) text

-- The first word of a line: the text before its first space, or all of it.
abbrev pub up_to_index : Option ℕ → List ℕ → List ℕ
up_to_index None text = text
up_to_index (Some index) text = take index text

-- A text up to its first space.
abbrev pub first_word : List ℕ → List ℕ
first_word text = up_to_index (position_from is_space 0 text) text

-- The text after the first space of a line, if it has one.
abbrev pub after_space : List ℕ → Option (List ℕ)
after_space text = option_map (λ index. drop (index + 1) text) (position_from is_space 0 text)

-- A line is malformed without a text that it must have.
abbrev pub required : {A : Type 0} → Option A → Result A Fault
required None = Err fault.Malformed
required (Some value) = Ok value

-- The text after a colon, if a text begins with one.
unfoldable pub after_colon : List ℕ → Option (List ℕ)
after_colon [] = None
after_colon (byte ∷ bytes) = if byte == 58 then Some bytes else None

-- A mark's number is not 0.
unfoldable pub numbered : Option ℕ → Result ℕ Fault
numbered None = Err fault.BadMark
numbered (Some number) = if number == 0 then Err fault.BadMark else Ok number

-- <idnum>
abbrev pub idnum_of : List ℕ → Result ℕ Fault
idnum_of text = numbered (number_of text)

-- The number of a mark, which must have had a colon before its digits.
abbrev pub marked : Option (List ℕ) → Result ℕ Fault
marked None = Err fault.Malformed
marked (Some digits) = idnum_of digits

-- A mark is a colon and an idnum: ':' <idnum>
abbrev pub mark_of : List ℕ → Result ℕ Fault
mark_of text = marked (after_colon text)

-- The object name that the digits write. A text that is not such digits is malformed.
abbrev pub named : Result (List ℕ) FromHexError → Result DataRef Fault
named (Ok id) = Ok (data_ref.Name id)
named (Err e) = Err fault.Malformed

-- A dataref: a mark, whose digits came after a colon, or the name of an object.
abbrev pub referred : List ℕ → Option (List ℕ) → Result DataRef Fault
referred text None = named (decode_sized text 20)  -- 40 hexadecimal digits of either case
referred text (Some digits) = read (idnum_of digits) (λ mark. Ok (data_ref.Mark mark))

-- A dataref is a mark if it begins with a colon, and else an object name: <dataref>
abbrev pub dataref_of : List ℕ → Result DataRef Fault
dataref_of text = referred text (after_colon text)

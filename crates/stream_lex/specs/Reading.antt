-- The items of a stream as a function of all its bytes.
use Rattle.std.specs.Prelude.{ℕ, zero, suc, ◌+◌, ◌-◌, Bool, true, false, ◌&&◌, nat_eq, nat_lt, if◌then◌else◌, List, [], ◌∷◌, ◌++◌, length, take, drop, Option, None, Some, option_map}
use Rattle.std.specs.List.{starts_with}
use Rattle.stream_lex.specs.declared.fault.Fault.TheVariants.{LineTooLong, BadData, Limit}
use Rattle.stream_lex.specs.declared.header.LineKind.{LineKind}
use Rattle.stream_lex.specs.declared.header.LineKind.TheVariants.{Empty, Comment, Counted, Delimited, BadHeader, Other}
use Rattle.stream_lex.specs.Items.{Item, Line, Data, Blank, Tail, Rest, Failed, Reading, before}
use Rattle.stream_lex.specs.Headers.{longest_line, largest_data, is_line_end, line_length, kind_of, delimiter_of}

-- What comes at the beginning of a line: nothing whole, a comment of so many bytes, or an item of
-- so many bytes.
pub data First : Type 0 where
  Stops : Tail → First
  Skips : ℕ → First
  Gives : Item → ℕ → First

-- How many bytes come before the first line that is the delimiter, from the beginning of a line or
-- from within one.
unfoldable pub before_delimiter : List ℕ → Bool → List ℕ → Option ℕ
before_delimiter delimiter at_start [] = None
before_delimiter delimiter at_start (byte ∷ bytes) =
    if at_start && starts_with nat_eq (byte ∷ bytes) (delimiter ++ 10 ∷ []) then Some 0
    else option_map suc (before_delimiter delimiter (is_line_end byte) bytes)

-- Data of a counted size after a header of n bytes.
unfoldable pub counted_data : ℕ → ℕ → List ℕ → First
counted_data size n bytes =
    if nat_lt largest_data size then Stops (Failed Limit)
    else if nat_lt (length bytes) (n + size) then Stops (Rest false bytes)
    else Gives (Data (take size (drop n bytes))) (n + size)

-- Data after a header of n bytes, by how many bytes come before the delimiter line.
unfoldable pub data_before : Option ℕ → List ℕ → ℕ → List ℕ → First
data_before None delimiter n bytes =
    if nat_lt (length bytes) (n + largest_data + length delimiter + 1) then Stops (Rest false bytes)
    else Stops (Failed Limit)
data_before (Some size) delimiter n bytes =
    if nat_lt largest_data size then Stops (Failed Limit)
    else Gives (Data (take size (drop n bytes))) (n + size + length delimiter + 1)

-- Data up to a delimiter line, after a header of n bytes.
abbrev pub delimited_data : List ℕ → ℕ → List ℕ → First
delimited_data delimiter n bytes =
    data_before (before_delimiter delimiter true (drop n bytes)) delimiter n bytes

-- What a whole line of n bytes begins, by its kind. The line end is one of the n bytes.
abbrev pub whole_line : LineKind → List ℕ → ℕ → List ℕ → First
whole_line Empty text n bytes = Gives Blank n
whole_line Comment text n bytes = Skips n
whole_line (Counted size) text n bytes = counted_data size n bytes
whole_line Delimited text n bytes = delimited_data (delimiter_of text) n bytes
whole_line BadHeader text n bytes = Stops (Failed BadData)
whole_line Other text n bytes = Gives (Line text) n

-- What comes at the beginning of a line, by where the first line end is. The number of all bytes
-- means that there is no line end.
unfoldable pub first_at : ℕ → List ℕ → First
first_at end bytes =
    if nat_lt longest_line end then Stops (Failed LineTooLong)
    else if nat_lt end (length bytes)
    then whole_line (kind_of (take end bytes)) (take end bytes) (end + 1) bytes
    else Stops (Rest false bytes)

-- What comes at the beginning of a line.
abbrev pub first_of : List ℕ → First
first_of bytes = first_at (line_length bytes) bytes

-- Whether an item is a data. A line end directly after a data is skipped.
abbrev pub is_data : Item → Bool
is_data (Line text) = false
is_data (Data raw) = true
is_data Blank = false

-- The reading by what comes first; `later` reads what follows after so many of the further bytes.
abbrev pub continued : First → (ℕ → Bool → Reading) → Reading
continued (Stops tail) later = record { items = []; tail = tail }
continued (Skips n) later = later (n - 1) false
continued (Gives item n) later = before item (later (n - 1) (is_data item))

-- The reading of the bytes after the first n; `skips` says whether a line end there is skipped.
unfoldable pub walk : List ℕ → ℕ → Bool → Reading
walk [] n skips = record { items = []; tail = Rest skips [] }
walk (byte ∷ bytes) (suc n) skips = walk bytes n skips
walk (byte ∷ bytes) zero skips =
    if skips && is_line_end byte then walk bytes 0 false
    else continued (first_of (byte ∷ bytes)) (λ n data_next. walk bytes n data_next)

-- The reading of bytes from the beginning of a line; `skips` says whether it follows a data.
abbrev pub reading : Bool → List ℕ → Reading
reading skips bytes = walk bytes 0 skips

-- Lines and the headers of data: git-fast-import(1), "data".
use Rattle.std.specs.Prelude.{◌≡◌, ℕ, ◌≤◌, Bool, ◌==◌, nat_eq, if◌then◌else◌, List, length, drop, Option, None, Some, codes}
use Rattle.std.specs.List.{starts_with, position_or_len}
use Rattle.numerals.specs.Numbers.{number_of}
use Rattle.stream_lex.specs.declared.header.LineKind.{LineKind}
use Rattle.stream_lex.specs.declared.header.LineKind.TheVariants.{Empty, Comment, Counted, Delimited, BadHeader, Other}

-- A line has at most 1,048,575 bytes, without its line end.
abbrev pub longest_line : ℕ
longest_line = 1048575

-- One data has at most 67,108,864 bytes.
abbrev pub largest_data : ℕ
largest_data = 67108864

-- The byte LF ends a line.
abbrev pub is_line_end : ℕ → Bool
is_line_end byte = byte == 10

-- How many bytes come before the first line end; the number of all bytes if there is none.
abbrev pub line_length : List ℕ → ℕ
line_length bytes = position_or_len is_line_end bytes

-- No byte of the text is a line end.
abbrev pub HasNoLineEnd : List ℕ → Type 0
HasNoLineEnd text = line_length text ≡ length text

-- The text of a line: it has no line end and at most 1,048,575 bytes.
pub record IsLine (text : List ℕ) : Type 0 where
  pub one_line : HasNoLineEnd text
  pub within_limit : length text ≤ longest_line

-- A data header by its count, which is below 2^64 and may have leading zeros. A bad count is no
-- header.
abbrev pub counted_kind : Option ℕ → LineKind
counted_kind None = BadHeader
counted_kind (Some size) = Counted size

-- A data header by the text after `data SP`: a count, or `<<` and a delimiter that is not empty.
unfoldable pub header_kind : List ℕ → LineKind
header_kind argument =
    if starts_with nat_eq argument (codes "<<")
    then (if length argument == 2 then BadHeader else Delimited)
    else counted_kind (number_of argument)

-- The kind of a line, by how it begins.
unfoldable pub kind_of : List ℕ → LineKind
kind_of text =
    if length text == 0 then Empty
    else if starts_with nat_eq text (codes "#") then Comment
    else if starts_with nat_eq text (codes "data ") then header_kind (drop 5 text)
    else Other

-- The delimiter that a header names: the text after `data SP <<`.
abbrev pub delimiter_of : List ℕ → List ℕ
delimiter_of header = drop 7 header

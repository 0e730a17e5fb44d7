-- Items: git-fast-import(1), "Input Format" and "data".
use Rattle.std.specs.Prelude.{◌≡◌, ◌≢◌, ℕ, ◌+◌, ◌<◌, ◌≤◌, true, false, List, [], ◌∷◌, ◌++◌, length}
use Rattle.stream_lex.specs.declared.fault.Fault.TheVariants.{LineTooLong, BadData, Limit}
use Rattle.stream_lex.specs.declared.header.LineKind.TheVariants.{Comment, Counted, Delimited, BadHeader, Other}
use Rattle.stream_lex.specs.Items.{Item, Line, Data, Blank, Tail, Rest, Failed}
use Rattle.stream_lex.specs.Headers.{longest_line, largest_data, HasNoLineEnd, IsLine, kind_of, delimiter_of}

-- The text is whole lines, each with its line end, and none of them is the delimiter.
pub data OtherLines (delimiter : List ℕ) : List ℕ → Type 0 where
  no_lines : OtherLines delimiter []
  one_more : (text lines : List ℕ)
      → HasNoLineEnd text → text ≢ delimiter → OtherLines delimiter lines
      → OtherLines delimiter (text ++ 10 ∷ lines)

-- The text is one whole data with its header, and its delimiter line if it has one, and gives these
-- raw bytes.
pub data IsData : List ℕ → List ℕ → Type 0 where
  counted : (header raw : List ℕ)
      → IsLine header → kind_of header ≡ Counted (length raw) → length raw ≤ largest_data
      → IsData (header ++ 10 ∷ raw) raw
  delimited : (header raw : List ℕ)
      → IsLine header → kind_of header ≡ Delimited → OtherLines (delimiter_of header) raw
      → length raw ≤ largest_data
      → IsData (header ++ 10 ∷ (raw ++ (delimiter_of header ++ 10 ∷ []))) raw

-- The text is the beginning of one data that is not whole yet.
pub data IsUnfinishedData : List ℕ → Type 0 where
  counted_so_far : (header raw : List ℕ) (size : ℕ)
      → IsLine header → kind_of header ≡ Counted size → size ≤ largest_data → length raw < size
      → IsUnfinishedData (header ++ 10 ∷ raw)
  delimited_so_far : (header lines text : List ℕ)
      → IsLine header → kind_of header ≡ Delimited
      → OtherLines (delimiter_of header) lines → HasNoLineEnd text
      → length (lines ++ text) < largest_data + length (delimiter_of header) + 1
      → IsUnfinishedData (header ++ 10 ∷ (lines ++ text))

-- The text is the beginning of one data that is too large: its count says so, or its header is
-- followed by so many bytes without a delimiter line that the raw bytes must be too many.
pub data IsTooLargeData : List ℕ → Type 0 where
  counted_too_large : (header : List ℕ) (size : ℕ)
      → IsLine header → kind_of header ≡ Counted size → largest_data < size
      → IsTooLargeData (header ++ 10 ∷ [])
  delimited_too_large : (header lines text : List ℕ)
      → IsLine header → kind_of header ≡ Delimited
      → OtherLines (delimiter_of header) lines → HasNoLineEnd text
      → length (lines ++ text) ≡ largest_data + length (delimiter_of header) + 1
      → IsTooLargeData (header ++ 10 ∷ (lines ++ text))

-- The bytes of a stream so far, from the beginning of a line on, give no item and leave this tail.
pub data Leaves : List ℕ → Tail → Type 0 where
  nothing_left : Leaves [] (Rest false [])
  unfinished_line : (text : List ℕ) → IsLine text → text ≢ [] → Leaves text (Rest false text)
  line_too_long : (text rest : List ℕ) → HasNoLineEnd text → length text ≡ longest_line + 1
      → Leaves (text ++ rest) (Failed LineTooLong)
  bad_header : (text rest : List ℕ) → IsLine text → kind_of text ≡ BadHeader
      → Leaves (text ++ 10 ∷ rest) (Failed BadData)
  unfinished_data : (text : List ℕ) → IsUnfinishedData text → Leaves text (Rest false text)
  data_too_large : (text rest : List ℕ) → IsTooLargeData text
      → Leaves (text ++ rest) (Failed Limit)

-- A whole line that is no data header gives these items: none if it is a comment.
pub data LineGives : List ℕ → List Item → Type 0 where
  comment : (text : List ℕ) → kind_of text ≡ Comment → LineGives text []
  blank_line : LineGives [] (Blank ∷ [])
  line : (text : List ℕ) → kind_of text ≡ Other → LineGives text (Line text ∷ [])

-- After a data some bytes continue with these: a line end directly after the data is skipped.
pub data ContinuesWith : List ℕ → List ℕ → Type 0 where
  line_end : (rest : List ℕ) → ContinuesWith (10 ∷ rest) rest
  other_byte : (byte : ℕ) (rest : List ℕ) → byte ≢ 10 → ContinuesWith (byte ∷ rest) (byte ∷ rest)

-- The bytes of a stream so far, from the beginning of a line on, give these items and this tail.
pub data Reads : List ℕ → List Item → Tail → Type 0 where
  no_item : {bytes : List ℕ} {tail : Tail} → Leaves bytes tail → Reads bytes [] tail
  whole_line : (text rest : List ℕ) {given items : List Item} {tail : Tail}
      → IsLine text → LineGives text given → Reads rest items tail
      → Reads (text ++ 10 ∷ rest) (given ++ items) tail
  data_at_end : (text raw : List ℕ) → IsData text raw → Reads text (Data raw ∷ []) (Rest true [])
  data_and_more : (text raw more rest : List ℕ) {items : List Item} {tail : Tail}
      → IsData text raw → ContinuesWith more rest → Reads rest items tail
      → Reads (text ++ more) (Data raw ∷ items) tail

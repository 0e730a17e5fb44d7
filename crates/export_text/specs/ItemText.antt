-- Items as text: git-fast-import(1), "Input Format".
use Rattle.std.specs.Prelude.{◌≡◌, ℕ, ◌≤◌, List, ◌++◌, length, codes, decimal}
use Rattle.std.specs.List.{flat_map}
use Rattle.stream_lex.specs.declared.header.LineKind.TheVariants.{Other}
use Rattle.stream_lex.specs.Headers.{IsLine, kind_of, largest_data}
use Rattle.stream_lex.specs.Items.{Item, Line, Data, Blank}

-- A line is written with its line end, and a data by its count with one line end after its bytes.
abbrev pub item_text : Item → List ℕ
item_text (Line text) = text ++ codes "\n"
item_text (Data raw) = codes "data " ++ decimal (length raw) ++ codes "\n" ++ raw ++ codes "\n"
item_text Blank = codes "\n"

abbrev pub items_text : List Item → List ℕ
items_text items = flat_map item_text items

-- The items that can be written so: a line is not a comment, a data header or an empty line, and a
-- data is not too large.
abbrev pub CanWriteItem : Item → Type 0
CanWriteItem (Line text) = IsLine text × (kind_of text ≡ Other)
CanWriteItem (Data raw) = length raw ≤ largest_data
CanWriteItem Blank = Unit {0}

-- Items: git-fast-import(1), "Input Format".
use Rattle.std.specs.Prelude.{ℕ, Bool, List, ◌∷◌, ◌++◌}
use Rattle.stream_lex.specs.declared.fault.Fault.{Fault}

-- What a stream gives: a line without its line end, the bytes of one data, or a blank line.
pub data Item : Type 0 where
  Line : List ℕ → Item
  Data : List ℕ → Item
  Blank : Item

-- What is left after the last item: bytes that are no whole item yet, or a fault. The flag says
-- whether a line end that comes first is skipped, because it directly follows a data.
pub data Tail : Type 0 where
  Rest : Bool → List ℕ → Tail
  Failed : Fault → Tail

-- A reading of bytes: the items in order, and what is left after them.
pub record Reading : Type 0 where
  pub items : List Item
  pub tail : Tail

-- A reading with one more item before it.
abbrev pub before : Item → Reading → Reading
before item later = record { items = item ∷ later.items; tail = later.tail }

-- A reading with more items before it.
abbrev pub after_items : List Item → Reading → Reading
after_items items later = record { items = items ++ later.items; tail = later.tail }

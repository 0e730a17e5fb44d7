-- The lines of a stream.
use Rattle.std.specs.Prelude.{◌≡◌, ℕ, List, [], ◌∷◌, ◌++◌}
use Rattle.std.specs.List.{flat_map}
use Rattle.stream_lex.specs.Items.{Item, Line, Data, Blank, Tail, after_items}
use Rattle.stream_lex.specs.Running.{more_of}

-- A line with its line end; nothing of another item.
abbrev pub line_of : Item → List ℕ
line_of (Line text) = text ++ 10 ∷ []
line_of (Data raw) = []
line_of Blank = []

-- The lines among some items.
abbrev pub outline_of : List Item → List ℕ
outline_of items = flat_map line_of items

-- Items were taken, whichever bytes follow, and the lines among them were appended.
pub record Outlines (old : Tail) (before : List ℕ) (new : Tail) (after : List ℕ) : Type 0 where
  pub items : List Item
  pub taken : (more : List ℕ) → more_of old more ≡ after_items items (more_of new more)
  pub appended : after ≡ before ++ outline_of items

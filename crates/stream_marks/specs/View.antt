-- The marks of a stream: git-fast-import(1), "mark".
use Rattle.std.specs.Prelude.{ℕ, ◌+◌, List, [], ◌∷◌, ◌++◌, Option, None, Some}
use Rattle.stream_grammar.specs.declared.marked_object.MarkedObject.{MarkedObject}

-- Marks: the number of each, and the object that it stands for.
abbrev pub Marks : Type 0
Marks = List (ℕ × MarkedObject)

-- The marks, in the order in which they were first set; and a number of marks that can be set
-- without memory.
pub record View : Type 0 where
  pub entries : Marks
  pub spare : ℕ

-- The marks from a number on that are set, each with its object.
abbrev pub marks_from : ℕ → List (Option MarkedObject) → Marks
marks_from mark [] = []
marks_from mark (None ∷ objects) = marks_from (mark + 1) objects
marks_from mark (Some object ∷ objects) = (mark, object) ∷ marks_from (mark + 1) objects

-- The marks from 1 that are set, and then the others.
abbrev pub in_turn : List (Option MarkedObject) → Marks → Marks
in_turn objects others = marks_from 1 objects ++ others

-- How contracts see the values of the code.
use Rattle.std.specs.Prelude.{ℕ, Bool, List, [], ◌∷◌}
use Rattle.std.specs.Str.{bytes_eq}
use Rattle.tree_build.specs.declared.dir.Node.{Node}
use Rattle.tree_build.specs.declared.dir.Node.TheVariants as node
use Rattle.tree_build.specs.Shape.{file, unopened, opened, Shape, none, row, Held}

-- What is held at a node.
abbrev pub held : Node → Held
held (node.File e) = record { what = file e; inside = none }
held (node.Unopened id) = record { what = unopened id; inside = none }
held (node.Opened d) = record { what = opened d.tree; inside = d.entries }

abbrev pub with_row : List ℕ → Held → Shape → Shape
with_row c h rest = row c h.what h.inside rest

-- The entries of a directory in a row.
abbrev pub shape_of : List (List ℕ × Node) → Shape
shape_of [] = none
shape_of (e ∷ es) = with_row e.0 (held e.1) (shape_of es)

abbrev pub has_name : List ℕ → List ℕ × Node → Bool
has_name c e = bytes_eq e.0 c

-- Copies of what is held: they mean the same, and are found along a path.
use Rattle.std.proofs.Common.{◌≡◌, ◌≢◌, ℕ, false, List, [], ◌∷◌, map, refl}
use Rattle.std.specs.Prelude.{Option, None, Some}
use Rattle.tree_build.specs.declared.dir.Node.{Node}
use Rattle.tree_build.specs.declared.dir.Node.TheVariants.{File, Unopened, Opened}
use Rattle.tree_build.specs.Shape.{opened, Shape, row, Held, Directory}
use Rattle.tree_build.specs.Editing.{new_directory, dropped}
use Rattle.tree_build.specs.Nodes.{held, shape_of}
use Rattle.tree_build.specs.Opened.{row_of}
use Rattle.tree_build.specs.Moving.{standing, rest_of, copied_shape, copied_held}
use Rattle.tree_build.proofs.Named.{Rows}
use Rattle.file_maps.specs.FileMap.{Path}

-- an entry as it is copied
abbrev pub copied_row : List ℕ × Node → List ℕ × Held
copied_row e = (e.0, copied_held (held e.1))

abbrev with_held : List ℕ × Held → Shape → Shape
with_held r rest = row r.0 r.1.what r.1.inside rest

heads : (a b : List ℕ × Held) (x y : List (List ℕ × Held)) → a ∷ x ≡ b ∷ y → a ≡ b
heads a b x y h = cc h

tails : (a b : List ℕ × Held) (x y : List (List ℕ × Held)) → a ∷ x ≡ b ∷ y → x ≡ y
tails a b x y h = cc h

pub copied_rows : (xs ys : Rows) → map row_of xs ≡ map copied_row ys
    → shape_of xs ≡ copied_shape (shape_of ys)
copied_rows [] [] h = refl
copied_rows [] (y ∷ ys) h = cc h
copied_rows (x ∷ xs) [] h = cc h
copied_rows (x ∷ xs) (y ∷ ys) h =
    let one = heads (row_of x) (copied_row y) (map row_of xs) (map copied_row ys) h in
    let rest = copied_rows xs ys (tails (row_of x) (copied_row y) (map row_of xs)
    (map copied_row ys) h) in
    λ i. with_held (one i) (rest i)

-- nothing stands below a file, or below what was not opened
pub nothing_stands : (path : Path) → standing path None ≡ None
nothing_stands [] = refl
nothing_stands (c ∷ path) = nothing_stands path

pub none_below : (n : Node) → ((d : Directory) → n ≡ Opened d → ⊥) → (c : List ℕ) (path : Path)
    → standing (c ∷ path) (Some (held n)) ≡ None
none_below (File e) h c path = nothing_stands path
none_below (Unopened id) h c path = nothing_stands path
none_below (Opened d) h c path = absurd (h d refl)

pub stands_nowhere : (n : Node) → ((d : Directory) → n ≡ Opened d → ⊥) → (path : Path)
    → path ≢ [] → standing path (Some (held n)) ≡ None
stands_nowhere n h [] ne = absurd (ne refl)
stands_nowhere n h (c ∷ path) ne = none_below n h c path

-- what is left where something is taken out
pub rest_opened : (path : Path) → path ≢ [] → (tree : Option (List ℕ)) (inside : Shape)
    → rest_of path (record { what = opened tree; inside = inside }) ≡ new_directory (dropped false path inside)
rest_opened [] ne tree inside = absurd (ne refl)
rest_opened (c ∷ path) ne tree inside = refl

pub rest_other : (n : Node) → ((d : Directory) → n ≡ Opened d → ⊥) → (path : Path) → path ≢ []
    → held n ≡ rest_of path (held n)
rest_other n h [] ne = absurd (ne refl)
rest_other (File e) h (c ∷ path) ne = refl
rest_other (Unopened id) h (c ∷ path) ne = refl
rest_other (Opened d) h (c ∷ path) ne = absurd (h d refl)

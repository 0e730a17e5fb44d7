-- A walk reads at most one tree for each component of its path.
use Rattle.std.proofs.Common.{ℕ, ◌≤◌, [], ◌∷◌, length, arith}
use Rattle.std.specs.Str.{bytes_eq}
use Rattle.git_paths.proofs.Cases.{by_cases}
use Rattle.file_maps.specs.FileMap.{Path}
use Rattle.tree_build.specs.Shape.{What, file, unopened, opened, Shape, none, row, Held}
use Rattle.tree_build.specs.Branch.{closed_by, closed_along, closed_from}

few-by : (w : What) (inside left : ℕ) → inside ≤ left → closed_by w inside left ≤ left
few-by (file e) inside left h = omega arith
few-by (unopened id) inside left h = omega arith
few-by (opened tree) inside left h = h

few-along : (s : Shape) (path : Path) → closed_along s path ≤ length path
few-along none path = omega arith
few-along (row c w inside rest) [] = omega arith
few-along (row c w inside rest) (d ∷ path) =
    by_cases (bytes_eq c d)
    (λ yea.
    let few = few-by w (closed_along inside path) (length path) (few-along inside path) in
    rw yea (omega (arith, few)))
    (λ nay. rw nay (few-along rest (d ∷ path)))

pub walk-few : (h : Held) (path : Path) → closed_from h path ≤ length path
walk-few h path =
    few-by h.what (closed_along h.inside path) (length path) (few-along h.inside path)

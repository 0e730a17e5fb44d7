-- Each opened directory is deeper than those inside it.
use Rattle.std.specs.Prelude.{◌≡◌, ℕ, ◌+◌, ◌*◌, ◌≤◌, max, List, [], ◌∷◌, ◌++◌}
use Rattle.std.proofs.Common.{arith}
use denote.Param.Weighed.{most}
use Rattle.tree_build.specs.declared.dir.Node.{Node}
use Rattle.tree_build.specs.declared.dir.Chunk.{Chunk}
use Rattle.tree_build.specs.declared.dir.Node.TheVariants.{File, Unopened, Opened}
use Rattle.tree_build.specs.declared.dir.Dir.TheDeep.{deep-Node, deep-Chunk}
use Rattle.tree_build.specs.Nodes.{shape_of}
use Rattle.tree_build.specs.ShapeCode.{shape_size}
use Rattle.tree_build.specs.Chunks.{all}

rows_fall : (es : List (List ℕ × Node))
    → most (λ e. max 0 (max (deep-Node e.1) 0)) es ≤ 3 * shape_size (shape_of es)
rows_fall [] = omega arith
rows_fall ((c, File e) ∷ es) = let rest = rows_fall es in omega arith
rows_fall ((c, Unopened id) ∷ es) = let rest = rows_fall es in omega arith
rows_fall ((c, Opened d) ∷ es) = let rest = rows_fall es in omega arith

size_append : (xs ys : List (List ℕ × Node))
    → shape_size (shape_of (xs ++ ys)) ≡ max (shape_size (shape_of xs)) (shape_size (shape_of ys))
size_append [] ys = omega arith
size_append (x ∷ xs) ys = let rest = size_append xs ys in omega arith

pub falls : (vs : List Chunk) → most deep-Chunk vs ≤ 3 * shape_size (shape_of (all vs)) + 1
falls [] = omega arith
falls (v ∷ vs) =
    let first = rows_fall v.entries.items in
    let rest = falls vs in
    let both = size_append v.entries.items (all vs) in
    omega arith

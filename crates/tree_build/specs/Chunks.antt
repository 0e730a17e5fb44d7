-- The entries of a directory, which the code keeps in chunks.
use Rattle.std.specs.Prelude.{◌≡◌, ℕ, zero, suc, ◌+◌, ◌*◌, ◌-◌, ◌<◌, ◌≤◌, List, [], ◌∷◌, ◌++◌, length, slice_index_or, slice_set}
use Rattle.tree_build.specs.declared.dir.Node.{Node}
use Rattle.tree_build.specs.declared.dir.Chunk.{Chunk}
use Rattle.tree_build.specs.ShapeCode.{shape_size}
use Rattle.tree_build.specs.Nodes.{shape_of}

-- The entries, in their order.
pub record Listing : Type 0 where
  pub items : List (List ℕ × Node)

-- The entries of all chunks in a row.
abbrev pub all : List Chunk → List (List ℕ × Node)
all [] = []
all (v ∷ vs) = v.entries.items ++ all vs

abbrev pub listing_size : Listing → ℕ
listing_size l = 3 * shape_size (shape_of l.items) + 1

-- How many entries stand before a chunk.
abbrev pub before : List Chunk → ℕ → ℕ
before [] chunk = 0
before (v ∷ vs) zero = 0
before (v ∷ vs) (suc chunk) = length v.entries.items + before vs chunk

-- Each of the first so many chunks knows how many entries stand before it.
abbrev pub CountsTo : ℕ → List Chunk → Type 0
CountsTo count vs =
    (chunk : ℕ) (default : Chunk) → chunk < count
    → (slice_index_or vs chunk default).start ≡ before vs chunk

-- Each chunk does.
abbrev pub AreStarts : List Chunk → Type 0
AreStarts vs = CountsTo (length vs) vs

-- The entry at a place is that at an offset in a chunk.
abbrev pub IsSpot : List Chunk → ℕ → ℕ → ℕ → Type 0
IsSpot [] place chunk offset = ⊥
IsSpot (v ∷ vs) place zero offset = (offset < length v.entries.items) × (place ≡ offset)
IsSpot (v ∷ vs) place (suc chunk) offset =
    (length v.entries.items ≤ place) × IsSpot vs (place - length v.entries.items) chunk offset

-- The entries, of which the one at a place has another node in place of `old`.
abbrev pub with_node : Listing → ℕ → Node → Node → Listing
with_node l place old new =
    record { items = slice_set l.items place ((slice_index_or l.items place ([], old)).0, new) }

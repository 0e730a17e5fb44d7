-- The entries of a directory, chunk by chunk.
use Rattle.std.proofs.Common.{◌≡◌, ℕ, zero, suc, ◌+◌, ◌<◌, List, [], ◌∷◌, ◌++◌, length, take, get_or, sym, ap, ◌∙◌, subst, arith}
use Rattle.std.proofs.lemmas.Grind.{flat_map-append}
use Rattle.std.proofs.lemmas.List.{take_more, append_assoc, append-nil}
use Rattle.tree_build.specs.declared.dir.Chunk.{Chunk}
use Rattle.git_model.specs.Tree.{TreeEntry, entry_text, tree_contents}
use Rattle.tree_build.specs.Chunks.{all}
use Rattle.tree_build.specs.Nodes.{shape_of}
use Rattle.tree_build.specs.Stores.{entries_of_shape, AreNamed}
use Rattle.tree_build.proofs.Spots.{Row, Chunks}
use Rattle.tree_build.proofs.Places.{rows-append}

front-named : (xs ys : List Row) → AreNamed (shape_of (xs ++ ys)) → AreNamed (shape_of xs)
front-named [] ys h = tt
front-named (x ∷ xs) ys h = (h.0, front-named xs ys h.1)

back-named : (xs ys : List Row) → AreNamed (shape_of (xs ++ ys)) → AreNamed (shape_of ys)
back-named [] ys h = h
back-named (x ∷ xs) ys h = back-named xs ys h.1

pub chunk-named : (vs : Chunks) (i : ℕ) (v : Chunk) → i < length vs → v ≡ get_or vs i v
    → AreNamed (shape_of (all vs)) → AreNamed (shape_of v.entries.items)
chunk-named [] i v lt at h = absurd (omega arith)
chunk-named (w ∷ vs) zero v lt at h =
    subst (λ (u : Chunk). AreNamed (shape_of u.entries.items)) (sym at) (front-named w.entries.items (all vs) h)
chunk-named (w ∷ vs) (suc i) v lt at h = chunk-named vs i v (omega arith) at (back-named w.entries.items (all vs) h)

all-append : (us : Chunks) (v : Chunk) → all (us ++ v ∷ []) ≡ all us ++ v.entries.items
all-append [] v = append-nil v.entries.items
all-append (u ∷ us) v =
    ap (λ (l : List Row). u.entries.items ++ l) (all-append us v) ∙ sym (append_assoc u.entries.items (all us) v.entries.items)

-- one more chunk
pub chunks-more : (vs : Chunks) (i : ℕ) (v : Chunk) → i < length vs → v ≡ get_or vs i v
    → entries_of_shape (shape_of (all (take (i + 1) vs)))
    ≡ entries_of_shape (shape_of (all (take i vs))) ++ entries_of_shape (shape_of v.entries.items)
chunks-more vs i v lt at =
    ap (λ (l : Chunks). entries_of_shape (shape_of (all l)))
    (take_more vs i v lt ∙ ap (λ (y : Chunk). take i vs ++ y ∷ []) (sym at))
    ∙ ap (λ (l : List Row). entries_of_shape (shape_of l)) (all-append (take i vs) v)
    ∙ rows-append (all (take i vs)) v.entries.items

-- the contents with more entries
pub contents-more : (start was is : List ℕ) (es fs gs : List TreeEntry) → was ≡ start ++ tree_contents es
    → is ≡ was ++ tree_contents fs → gs ≡ es ++ fs → is ≡ start ++ tree_contents gs
contents-more start was is es fs gs before more all =
    more ∙ ap (λ (l : List ℕ). l ++ tree_contents fs) before
    ∙ append_assoc start (tree_contents es) (tree_contents fs)
    ∙ ap (λ (l : List ℕ). start ++ l) (sym (flat_map-append entry_text es fs) ∙ ap tree_contents (sym all))

pub one-text : (e : TreeEntry) → entry_text e ≡ tree_contents (e ∷ [])
one-text e = sym (append-nil (entry_text e))

-- A sum of summaries within the limits has parts within them. Sums entry by entry, and chunk by chunk.
use Rattle.std.proofs.Common.{◌≡◌, ℕ, suc, ◌+◌, ◌<◌, List, [], ◌∷◌, ◌++◌, length, drop, get_or, refl, sym, ap, ◌∙◌, subst, arith, drop-cons}
use Rattle.tree_build.specs.declared.dir.Chunk.{Chunk}
use Rattle.tenant_tables.specs.declared.summary.Summary.{Summary}
use Rattle.tenant_tables.specs.View.{Entries}
use Rattle.tenant_tables.specs.Trees.{both, entry_summary}
use Rattle.tree_build.specs.Chunks.{all}
use Rattle.tree_build.specs.Nodes.{held}
use Rattle.tree_build.specs.Stores.{entry_of_what}
use Rattle.tree_build.specs.Sums.{IsSmall, sum_with}
use Rattle.tree_build.proofs.Spots.{Row, Chunks}

pub first-small : (a b : Summary) → IsSmall (both a b) → IsSmall a
first-small a b h =
    let f = h.files in let d = h.depth in let l = h.longest in
    record { files = omega arith; depth = omega arith; longest = omega arith }

pub second-small : (a b : Summary) → IsSmall (both a b) → IsSmall b
second-small a b h =
    let f = h.files in let d = h.depth in let l = h.longest in
    record { files = omega arith; depth = omega arith; longest = omega arith }

abbrev pub row_sum : Entries → Row → Summary
row_sum table e = entry_summary table (entry_of_what e.0 (held e.1).what)

before-small : (table : Entries) (sum : Summary) (es : List Row) → IsSmall (sum_with table sum es) → IsSmall sum
before-small table sum [] h = h
before-small table sum (e ∷ es) h =
    first-small sum (row_sum table e) (before-small table (both sum (row_sum table e)) es h)

sum-append : (table : Entries) (sum : Summary) (xs ys : List Row)
    → sum_with table sum (xs ++ ys) ≡ sum_with table (sum_with table sum xs) ys
sum-append table sum [] ys = refl
sum-append table sum (x ∷ xs) ys = sum-append table (both sum (row_sum table x)) xs ys

-- one more of the entries that are left
pub next-sum : (table : Entries) (es : List Row) (i : ℕ) (x : Row) (sum total : Summary)
    → i < length es → x ≡ get_or es i x → sum_with table sum (drop i es) ≡ total
    → sum_with table (both sum (row_sum table x)) (drop (suc i) es) ≡ total
next-sum table es i x sum total lt at is =
    ap (sum_with table sum)
    (sym (drop-cons es i x lt ∙ ap (λ (y : Row). y ∷ drop (suc i) es) (sym at)))
    ∙ is

pub next-small : (table : Entries) (es : List Row) (i : ℕ) (x : Row) (sum total : Summary)
    → i < length es → x ≡ get_or es i x → sum_with table sum (drop i es) ≡ total → IsSmall total
    → IsSmall (both sum (row_sum table x))
next-small table es i x sum total lt at is h =
    before-small table (both sum (row_sum table x)) (drop (suc i) es)
    (subst IsSmall (sym (next-sum table es i x sum total lt at is)) h)

-- one more of the chunks that are left
pub chunk-sum : (table : Entries) (vs : Chunks) (i : ℕ) (v : Chunk) (sum total : Summary)
    → i < length vs → v ≡ get_or vs i v → sum_with table sum (all (drop i vs)) ≡ total
    → sum_with table (sum_with table sum v.entries.items) (all (drop (i + 1) vs)) ≡ total
chunk-sum table vs i v sum total lt at is =
    let one : i + 1 ≡ suc i = omega arith in
    ap (λ (k : ℕ). sum_with table (sum_with table sum v.entries.items) (all (drop k vs))) one
    ∙ sym (sum-append table sum v.entries.items (all (drop (suc i) vs)))
    ∙ ap (λ (l : Chunks). sum_with table sum (all l))
    (sym (drop-cons vs i v lt ∙ ap (λ (y : Chunk). y ∷ drop (suc i) vs) (sym at)))
    ∙ is

pub chunk-small : (table : Entries) (vs : Chunks) (i : ℕ) (v : Chunk) (sum total : Summary)
    → i < length vs → v ≡ get_or vs i v → sum_with table sum (all (drop i vs)) ≡ total → IsSmall total
    → IsSmall (sum_with table sum v.entries.items)
chunk-small table vs i v sum total lt at is h =
    before-small table (sum_with table sum v.entries.items) (all (drop (i + 1) vs))
    (subst IsSmall (sym (chunk-sum table vs i v sum total lt at is)) h)

-- A branch lists its files in the order of a file map: Git's order of direct entries is the order
-- of whole paths.
use Rattle.std.proofs.Common.{◌≡◌, ℕ, List, [], ◌∷◌, ◌++◌, refl, sym, ap, ◌∙◌}
use Rattle.std.specs.List.{AllByRecursion}
use Rattle.std.specs.Ordering.{nat_cmp}
use Rattle.std.specs.Cmp.Lexicographic.{slice_cmp}
use Rattle.std.specs.declared.cmp.Ordering.TheVariants.{Less, Greater}
use Rattle.git_model.specs.Repository.{Object}
use Rattle.git_paths.specs.Paths.{joined}
use Rattle.file_maps.specs.declared.entry.Entry.{Entry}
use Rattle.file_maps.specs.FileMap.{Path, Listed, listed}
use Rattle.file_maps.specs.Edits.{moved}
use Rattle.file_maps.specs.Storable.{AreInOrder}
use Rattle.file_maps.specs.StoredFiles.{stored_files}
use Rattle.file_maps.proofs.Apart.{all-map, all-weaker}
use Rattle.file_maps.proofs.Listing.{all-append}
use Rattle.file_maps.proofs.ListedOrder.{IsBelowRoot, key-falls, order-append, order-moved, tree-below, tree-in-order, listed-with}
use Rattle.file_maps.proofs.Rising.{Bytes, below, mark}
use Rattle.tree_build.specs.Shape.{What, file, unopened, opened, Shape, none, row, Held, what_files, shape_files, held_files}
use Rattle.tree_build.specs.Branch.{Branch, root_files, files_in, slash_after, IsNodeBefore, IsBeforeAll, IsWhat, IsRow, IsShape, IsHeld}

-- ---- lists of files, one after another

abbrev pub Later : Path → Listed → Type 0
Later p fs = AllByRecursion (λ g. below (joined p) (joined g.0)) fs

-- ---- what is held

module _ (os : List Object) where
  abbrev known : List ℕ → Listed
  known = stored_files os

  -- what an opened directory lists stands below it
  pub shape_below : (s : Shape) → AllByRecursion IsBelowRoot (shape_files known s)
  shape_below none = tt
  shape_below (row c w inside rest) =
      all-append IsBelowRoot (moved (c ∷ []) (what_files known w (shape_files known inside)))
      (shape_files known rest) (each (what_files known w (shape_files known inside)))
      (shape_below rest)
    where
      each : (fs : Listed) → AllByRecursion IsBelowRoot (moved (c ∷ []) fs)
      each [] = tt
      each (f ∷ fs) = ((λ e. cc e), each fs)

  marks : (fs : Listed) → AllByRecursion IsBelowRoot fs
      → AllByRecursion (λ g. mark g.0 ≡ 47 ∷ []) fs
  marks [] h = tt
  marks (([], e) ∷ fs) h = absurd (h.0 refl)
  marks (((c ∷ q), e) ∷ fs) h = (refl, marks fs h.1)

  -- the files of a directory have more after its name, and a file has not
  pub marked : (w : What) (inside : Shape) → IsWhat os w (shape_files known inside)
      → AllByRecursion (λ g. mark g.0 ≡ slash_after w) (what_files known w (shape_files known inside))
  marked (file e) inside h = (refl, tt)
  marked (unopened id) inside h = marks (known id) (tree-below os id (known id) h.tree)
  marked (opened tree) inside h = marks (shape_files known inside) (shape_below inside)

  before : (c : Bytes) (w : What) (p : Path) (d : Bytes) (v : What) (inside : Listed) → mark p ≡ slash_after w
      → IsNodeBefore c w d v → IsRow os c w inside → (g : Path × Entry) → mark g.0 ≡ slash_after v
      → (others : Listed) → IsRow os d v others
      → below (joined (c ∷ p)) (joined (d ∷ g.0))
  before c w p d v inside m s r g n others t =
      key-falls c d p g.0 r.name t.name s.names
      (λ greater. let one : slice_cmp nat_cmp (c ++ mark p) (d ++ mark g.0) ≡ Less = ap (λ (a : Bytes). slice_cmp nat_cmp (c ++ a) (d ++ mark g.0)) m
      ∙ ap (λ (a : Bytes). slice_cmp nat_cmp (c ++ slash_after w) (d ++ a)) n ∙ s.order in
      let no : Less ≡ Greater = sym one ∙ greater in cc no)

  -- what stands in a row after an entry
  pub later : (c : Bytes) (w : What) (inside : Listed) → IsRow os c w inside → (p : Path)
      → mark p ≡ slash_after w → (s : Shape) → IsBeforeAll c w s → IsShape os s
      → Later (c ∷ p) (shape_files known s)
  later c w inside r p m none b h = tt
  later c w inside r p m (row d v more rest) b h =
      all-append (λ (g : Path × Entry). below (joined (c ∷ p)) (joined g.0))
      (moved (d ∷ []) (what_files known v (shape_files known more))) (shape_files known rest)
      (all-map (λ (g : Path × Entry). (d ∷ [] ++ g.0, g.1))
      (λ (g : Path × Entry). below (joined (c ∷ p)) (joined g.0))
      (what_files known v (shape_files known more))
      (all-weaker (λ (g : Path × Entry). mark g.0 ≡ slash_after v)
      (λ (g : Path × Entry). below (joined (c ∷ p)) (joined (d ∷ g.0)))
      (λ g n. before c w p d v inside m b.0 r g n (shape_files known more) h.0)
      (what_files known v (shape_files known more)) (marked v more h.0.sound)))
      (later c w inside r p m rest b.1 h.3)

  row_in_order : (c : Bytes) (w : What) (inside : Shape) → IsWhat os w (shape_files known inside)
      → AreInOrder (shape_files known inside)
      → AreInOrder (moved (c ∷ []) (what_files known w (shape_files known inside)))
  row_in_order c (file e) inside h k = (tt, tt)
  row_in_order c (unopened id) inside h k =
      order-moved c (known id) (tree-below os id (known id) h.tree) (tree-in-order os id (known id) h.tree)
  row_in_order c (opened tree) inside h k =
      order-moved c (shape_files known inside) (shape_below inside) k

  pub shape_in_order : (s : Shape) → IsShape os s → AreInOrder (shape_files known s)
  shape_in_order none h = tt
  shape_in_order (row c w inside rest) h =
      order-append (moved (c ∷ []) (what_files known w (shape_files known inside)))
      (shape_files known rest) (row_in_order c w inside h.0.sound (shape_in_order inside h.2))
      (all-map (λ (g : Path × Entry). (c ∷ [] ++ g.0, g.1))
      (λ (f : Path × Entry). Later f.0 (shape_files known rest))
      (what_files known w (shape_files known inside))
      (all-weaker (λ (g : Path × Entry). mark g.0 ≡ slash_after w)
      (λ (g : Path × Entry). Later (c ∷ g.0) (shape_files known rest))
      (λ g m. later c w (shape_files known inside) h.0 g.0 m rest h.1 h.3)
      (what_files known w (shape_files known inside)) (marked w inside h.0.sound)))
      (shape_in_order rest h.3)

  pub held_in_order : (h : Held) → IsHeld os h → AreInOrder (held_files known h)
  held_in_order h k = by h.what k.0
    where
      by : (w : What) → IsWhat os w (shape_files known h.inside)
          → AreInOrder (what_files known w (shape_files known h.inside))
      by (file e) s = (tt, tt)
      by (unopened id) s = tree-in-order os id (known id) s.tree
      by (opened tree) s = shape_in_order h.inside k.1

  -- the map lists what the tree of directories lists
  pub branch_listed : (b : Branch) → IsHeld os b.root → listed (files_in os b) ≡ root_files os b
  unfolding files_in
  branch_listed b h = listed-with (root_files os b) (held_in_order b.root h)

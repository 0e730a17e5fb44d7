-- The direct entries of a directory: their files and their trees.
use Rattle.std.proofs.Common.{◌≡◌, ◌≢◌, ℕ, List, [], ◌∷◌, ◌++◌, Some, None, refl, sym, ap, ◌∙◌, subst, arith}
use Rattle.std.specs.List.{AllByRecursion}
use Rattle.git_model.specs.Repository.{Object}
use Rattle.content_pool.specs.Pool.{Cells}
use Rattle.tenant_tables.specs.View.{View}
use Rattle.tenant_tables.specs.Objects.{objects}
use Rattle.tenant_tables.specs.IsBackedBy.{IsBackedBy}
use Rattle.file_maps.specs.FileMap.{Listed}
use Rattle.file_maps.specs.Edits.{moved}
use Rattle.file_maps.specs.Trees.{Groups, grouped, file_of, depth_of, nested_trees, unless_file}
use Rattle.file_maps.specs.Storable.{AreStorable}
use Rattle.file_maps.specs.PlainTrees.{HasSummary, ListsPlain}
use Rattle.file_maps.specs.StoredFiles.{stored_files}
use Rattle.file_maps.specs.Storing.{AddsTrees, HasHoldsLeftBeside, trees_fault}
use Rattle.file_maps.proofs.Apart.{all-weaker}
use Rattle.file_maps.proofs.Fits.{IsGroup, groups-are}
use Rattle.file_maps.proofs.StandingGood.{trees-good}
use Rattle.file_maps.proofs.StoredAgain.{trees-held, unrefused-all}
use Rattle.file_maps.proofs.StoringHeld.{adds-held}
use Rattle.file_maps.proofs.Stored.{adds-none}
use Rattle.tree_build.specs.Shape.{What, file, unopened, opened, Shape, none, row, Held, Known, what_files, shape_files, held_files}
use Rattle.tree_build.specs.Branch.{IsWhat, IsBeforeAll, IsShape}
use Rattle.tree_build.specs.Parts.{spread, AreParts}
use Rattle.tree_build.specs.Rows.{IsPart, a_file, a_directory, HaveParts}
use Rattle.tree_build.specs.Stores.{unnamed, bare, bare_held, parts_of, entry_of_what, entries_of_shape, IsNamed, AreNamed}
use Rattle.tree_build.proofs.Rows.{no_file}
use Rattle.tree_build.proofs.Spread.{grouped-spread, own_trees}

-- ---- files

pub spread-parts : (k : Known) (s : Shape) → shape_files k s ≡ spread (parts_of k s)
spread-parts k none = refl
spread-parts k (row c w inside rest) =
    ap (λ (l : Listed). moved (c ∷ []) (what_files k w (shape_files k inside)) ++ l) (spread-parts k rest)

what-bare : (k : Known) (w : What) (new inside : Listed) → new ≡ inside
    → what_files k (unnamed w) new ≡ what_files k w inside
what-bare k (file e) new inside same = refl
what-bare k (unopened id) new inside same = refl
what-bare k (opened tree) new inside same = same

pub files-bare : (k : Known) (s : Shape) → shape_files k (bare s) ≡ shape_files k s
files-bare k none = refl
files-bare k (row c w inside rest) =
    ap (λ (l : Listed). moved (c ∷ []) l ++ shape_files k (bare rest))
    (what-bare k w _ _ (files-bare k inside))
    ∙ ap (λ (l : Listed). moved (c ∷ []) (what_files k w (shape_files k inside)) ++ l) (files-bare k rest)

pub held-bare : (k : Known) (h : Held) → held_files k (bare_held h) ≡ held_files k h
held-bare k h = what-bare k h.what _ _ (files-bare k h.inside)

pub parts-bare : (k : Known) (s : Shape) → parts_of k (bare s) ≡ parts_of k s
parts-bare k none = refl
parts-bare k (row c w inside rest) =
    let one = what-bare k w _ _ (files-bare k inside) in let more = parts-bare k rest in
    λ i. (c, one i) ∷ more i

-- what is the same but for names has the same files
pub same-files : (k : Known) (s t : Shape) → bare s ≡ bare t → shape_files k s ≡ shape_files k t
same-files k s t is = sym (files-bare k s) ∙ ap (shape_files k) is ∙ files-bare k t

pub same-held : (k : Known) (s t : Held) → bare_held s ≡ bare_held t → held_files k s ≡ held_files k t
same-held k s t is = sym (held-bare k s) ∙ ap (held_files k) is ∙ held-bare k t

pub same-parts : (k : Known) (s t : Shape) → bare s ≡ bare t → parts_of k s ≡ parts_of k t
same-parts k s t is = sym (parts-bare k s) ∙ ap (parts_of k) is ∙ parts-bare k t

-- ---- parts

other-names : (k : Known) (c : List ℕ) (w : What) (s : Shape) → IsBeforeAll c w s
    → AllByRecursion (λ h. c ≢ h.0) (parts_of k s)
other-names k c w none h = tt
other-names k c w (row d v inside rest) h = (h.0.names, other-names k c w rest h.1)

pub are-parts : (os : List Object) (s : Shape) → IsShape os s → AreParts (parts_of (stored_files os) s)
are-parts os none h = tt
are-parts os (row c w inside rest) h =
    (h.0.some, other-names (stored_files os) c w rest h.1, are-parts os rest h.3)

part-by : (os : List Object) (c : List ℕ) (w : What) (fs : Listed) → IsWhat os w fs
    → what_files (stored_files os) w fs ≢ [] → IsNamed w
    → IsPart os (entry_of_what c w) (c, what_files (stored_files os) w fs)
part-by os c (file e) fs h some named = a_file _ h.0
part-by os c (unopened id) fs h some named = a_directory _ _ refl h some
part-by os c (opened None) fs h some named = absurd named
part-by os c (opened (Some id)) fs h some named = a_directory _ _ refl h some

pub have-parts : (os : List Object) (s : Shape) → IsShape os s → AreNamed s
    → HaveParts os (entries_of_shape s) (parts_of (stored_files os) s)
have-parts os none h named = tt
have-parts os (row c w inside rest) h named =
    (part-by os c w _ h.0.sound h.0.some named.0, have-parts os rest h.3 named.1)

-- ---- files whose trees can be stored

a_storable : (deep : ℕ) (g : List ℕ × Listed) → IsGroup deep g → file_of g.1 ≡ None → AreStorable g.1
a_storable deep (c, []) h o = absurd h
a_storable deep (c, (([], e) ∷ fs)) h o = cc o
a_storable deep (c, (((d ∷ q), e) ∷ fs)) h o = h.storable

pub storable-parts : (parts : Groups) → AreParts parts → AreStorable (spread parts)
    → AllByRecursion (λ g. file_of g.1 ≡ None → AreStorable g.1) parts
storable-parts parts are h =
    subst (AllByRecursion (λ g. file_of g.1 ≡ None → AreStorable g.1)) (grouped-spread parts are)
    (all-weaker (IsGroup (depth_of (spread parts))) (λ g. file_of g.1 ≡ None → AreStorable g.1)
    (λ g k. a_storable (depth_of (spread parts)) g k) (grouped (spread parts)) (groups-are (spread parts) h))

-- ---- stored trees

module _ (digest : List ℕ → List ℕ) (p : Cells) (v : View) (stands : IsBackedBy digest p v.entries)
    (room : HasHoldsLeftBeside p v.entries) where
  -- the trees of the files of a stored tree
  pub adds-stored : (id : List ℕ) (fs : Listed) → ListsPlain (objects p v.entries) id fs
      → AddsTrees digest p v p v (nested_trees digest fs)
      × (trees_fault digest (nested_trees digest fs) (objects p v.entries) ≡ None)
  adds-stored id fs t =
      let good = trees-good digest p v.entries stands in
      let Meant = HasSummary (objects p v.entries) in
      let held = trees-held digest (objects p v.entries) Meant good id fs t.tree t.plain (depth_of fs) (omega arith) in (
        adds-held digest p v stands room (nested_trees digest fs) held,
        unrefused-all digest (objects p v.entries) Meant good (nested_trees digest fs) held,
      )

  -- the same of what an entry holds, unless it is an opened directory without a name
  pub adds-named : (w : What) (fs : Listed) → IsWhat (objects p v.entries) w fs → IsNamed w → (c : List ℕ)
      → AddsTrees digest p v p v (own_trees digest (c, what_files (stored_files (objects p v.entries)) w fs))
      × (trees_fault digest (own_trees digest (c, what_files (stored_files (objects p v.entries)) w fs)) (objects p v.entries) ≡ None)
  adds-named (file e) fs h named c = (adds-none digest p v stands room, refl)
  adds-named (unopened id) fs h named c = by id (stored_files (objects p v.entries) id) h
    where
      by : (id : List ℕ) (fs : Listed) → ListsPlain (objects p v.entries) id fs
          → AddsTrees digest p v p v (unless_file (file_of fs) (nested_trees digest fs))
          × (trees_fault digest (unless_file (file_of fs) (nested_trees digest fs)) (objects p v.entries) ≡ None)
      by id fs t = rw (no_file (objects p v.entries) id fs t) (adds-stored id fs t)
  adds-named (opened None) fs h named c = absurd named
  adds-named (opened (Some id)) fs h named c =
      rw (no_file (objects p v.entries) id fs h) (adds-stored id fs h)

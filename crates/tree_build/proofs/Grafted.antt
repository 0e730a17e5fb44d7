-- Branches after a stored tree was put at a path.
use Rattle.std.proofs.Common.{◌≡◌, ℕ, ◌≤◌, ◌&&◌, inl, inr, true, List, [], ◌∷◌, length, leb, None, Some, refl, sym, ap, ◌∙◌, subst, arith}
use Rattle.std.specs.FinMap as finmap
use Rattle.std.specs.FinMap.{len-entries, same_map, get-retain_keys, get-empty}
use Rattle.std.proofs.lemmas.Bool.{leb-true}
use Rattle.std.proofs.lemmas.List.Elements.{All-nil}
use Rattle.git_model.specs.Repository.{Object}
use Rattle.git_paths.specs.Paths.{IsComponent}
use Rattle.git_paths.specs.Order.{path_cmp, path_cmp-total, path_cmp-IsAntisymmetric}
use Rattle.git_paths.proofs.Cases.{some_is}
use Rattle.tenant_tables.specs.declared.summary.Summary.{Summary}
use Rattle.tenant_tables.specs.IsBackedBy.{AreBacked}
use Rattle.tenant_tables.specs.SumIn.{sum_in}
use Rattle.file_maps.specs.FileMap.{Path, Listed, FileMap, AreFiles, listed, is_apart}
use Rattle.file_maps.specs.Edits.{moved, with_files, put_tree_at, put_fault}
use Rattle.file_maps.specs.Grafts.{is_small}
use Rattle.file_maps.specs.Storable.{files_summary}
use Rattle.file_maps.specs.StoredFiles.{stored_files}
use Rattle.file_maps.specs.PlainTrees.{ListsPlain}
use Rattle.file_maps.proofs.Apart.{both_true}
use Rattle.file_maps.proofs.Listing.{tree-apart, tree-sound}
use Rattle.file_maps.proofs.ListedOrder.{tree-in-order, listed-with}
use Rattle.file_maps.proofs.StoredPut.{tree-paths}
use Rattle.file_maps.proofs.KnownTrees.{known-files, plain-stored, summed-listed}
use Rattle.tree_build.specs.Shape.{What, file, unopened, opened, shape_files, what_files}
use Rattle.tree_build.specs.Branch.{Branch, IsWhat, IsBranch, files_in, known_tree, root_name}
use Rattle.tree_build.specs.Limits.{may_stand, with_tree, TakesTree}
use Rattle.tree_build.specs.Moving.{fits_below}
use Rattle.tree_build.proofs.Limits.{ArePlaceable, stand-some, put_fits, fits_good}
use Rattle.tree_build.proofs.Puts.{not_many}

-- a stored tree with its summary
pub record IsStored (os : List Object) (id : List ℕ) (s : Summary) : Type 0 where
  pub tree : ListsPlain os id (stored_files os id)
  pub sum : s ≡ files_summary (stored_files os id)

-- ---- nothing is put

pub none_put : (os : List Object) (new : Branch) → IsBranch os new → (old : FileMap) (top : Path)
    (fs : Listed) → length fs ≡ 0 → files_in os new ≡ finmap.retain_keys old (is_apart top)
    → (put_fault (moved top fs) (put_tree_at old top fs) ≡ None)
    × (files_in os new ≡ put_tree_at old top fs)
none_put os new branch old top [] none is =
    let n = len-entries (files_in os new) in
    let m = branch.files.few in
    let few : finmap.len (files_in os new) ≤ 1048576 = omega arith in (
      put_fits top [] (finmap.retain_keys old (is_apart top)) tt refl
          ∙ not_many (finmap.len (finmap.retain_keys old (is_apart top)))
          (subst (λ (x : FileMap). finmap.len x ≤ 1048576) is few),
      is,
    )
none_put os new branch old top (f ∷ fs) none is = absurd (omega arith)

-- ---- the place of all

pub root_map : (m : FileMap) (fs : Listed) → put_tree_at m [] fs ≡ with_files finmap.empty fs
root_map m fs =
    ap (λ (x : FileMap). with_files x (moved [] fs))
    (same_map path_cmp-total path_cmp-IsAntisymmetric _ _ (λ q.
    get-retain_keys m (is_apart []) q (λ x e. refl) ∙ sym (get-empty path_cmp q)))
    ∙ ap (with_files finmap.empty) (unmoved fs)
  where
    unmoved : (fs : Listed) → moved [] fs ≡ fs
    unmoved [] = refl
    unmoved (f ∷ fs) = ap (λ (l : Listed). f ∷ l) (unmoved fs)

few_files : (top : Path) (fs : Listed) → may_stand top (files_summary fs) ≡ true
    → length fs ≤ 1048576
few_files top [] h = omega arith
few_files top (f ∷ fs) h =
    let s = files_summary (f ∷ fs) in
    leb-true (length (f ∷ fs)) 1048576
    (both_true (leb s.files 1048576) (leb s.depth 256)
    (both_true (leb s.files 1048576 && leb s.depth 256) (leb s.longest 16383)
    (both_true (is_small s) (fits_below top s) (sym (stand-some top f fs) ∙ h)).0).0).0

-- ---- a tree of the table

pub tree-here : {os : List Object} {id : List ℕ} (s : Summary) → sum_in os id ≡ Some s
    → IsStored os id s
tree-here {os} {id} s has =
    record { tree = summed-listed os id s has; sum = (known-files os id s has).1 }

pub placeable : (os : List Object) (id : List ℕ) → ListsPlain os id (stored_files os id)
    → ArePlaceable (stored_files os id)
placeable os id t = record {
  sound = tree-sound os id (stored_files os id) t.tree;
  paths = tree-paths os id (stored_files os id) t.tree;
  apart = tree-apart os id (stored_files os id) t.tree;
}

module _ (digest : List ℕ → List ℕ) (os : List Object) (backed : AreBacked digest os) where
  abbrev files : List ℕ → Listed
  files id = stored_files os id

  -- ---- at the root

  module _ (id : List ℕ) (t : ListsPlain os id (files id))
      (fit : may_stand [] (files_summary (files id)) ≡ true) where
    root_len : finmap.len (with_files finmap.empty (files id)) ≡ length (files id)
    root_len =
        len-entries (with_files finmap.empty (files id))
        ∙ ap (λ (l : Listed). length l) (listed-with (files id) (tree-in-order os id (files id) t.tree))

    root_few : (m : FileMap) → finmap.len (put_tree_at m [] (files id)) ≤ 1048576
    root_few m =
        subst (λ (x : FileMap). finmap.len x ≤ 1048576) (sym (root_map m (files id)))
        (subst (λ (n : ℕ). n ≤ 1048576) (sym root_len) (few_files [] (files id) fit))

    root_fault : (m : FileMap)
        → put_fault (moved [] (files id)) (put_tree_at m [] (files id)) ≡ None
    root_fault m =
        put_fits [] (files id) (put_tree_at m [] (files id)) (placeable os id t).sound fit
        ∙ not_many (finmap.len (put_tree_at m [] (files id))) (root_few m)

    known_files : (w : What) (inside : Listed) → IsWhat os w inside → known_tree w ≡ Some id
        → what_files (stored_files os) w inside ≡ files id
    known_files (file e) inside h is = cc is
    known_files (unopened other) inside h is = ap (stored_files os) (some_is other id is)
    known_files (opened None) inside h is = cc is
    known_files (opened (Some other)) inside h is =
        sym (plain-stored os other inside h)
        ∙ ap (stored_files os) (some_is other id is)

    known_map : (b : Branch) → IsBranch os b → root_name b ≡ Some id
        → files_in os b ≡ with_files finmap.empty (files id)
    unfolding files_in
    known_map b h is =
        ap (with_files finmap.empty)
        (known_files b.root.what (shape_files (stored_files os) b.root.inside) h.held.0 is)

    taken_map : (n : ℕ) (b : Branch)
        → files_in os (with_tree id n b) ≡ with_files finmap.empty (files id)
    unfolding files_in
    taken_map n b = refl

    root_files_in : (n : ℕ) (old new : Branch) → IsBranch os old → TakesTree id n old new
        → files_in os new ≡ with_files finmap.empty (files id)
    root_files_in n old new h takes =
        elim takes.taken [
          | inl same ↦ ap (files_in os) same.1 ∙ known_map old h same.0
          | inr is ↦ ap (files_in os) is ∙ taken_map n old
        ]

    pub root-edits : (n : ℕ) (old new : Branch) (path : Path) → path ≡ [] → IsBranch os old
        → TakesTree id n old new
        → (put_fault (moved path (files id)) (put_tree_at (files_in os old) path (files id)) ≡ None)
        × (files_in os new ≡ put_tree_at (files_in os old) path (files id))
    root-edits n old new path is h takes =
        subst
        (λ (p : Path).
        (put_fault (moved p (files id)) (put_tree_at (files_in os old) p (files id)) ≡ None)
        × (files_in os new ≡ put_tree_at (files_in os old) p (files id))) (sym is) (
          root_fault (files_in os old),
          root_files_in n old new h takes ∙ sym (root_map (files_in os old) (files id)),
        )

    root_good : (m : FileMap) → AreFiles (listed m)
        → AreFiles (listed (with_files finmap.empty (files id)))
    root_good m h =
        subst (λ (x : FileMap). AreFiles (listed x)) (root_map m (files id))
        (fits_good m [] (files id) h (All-nil IsComponent) (placeable os id t) fit (root_few m))

    pub root-branch : (n : ℕ) (old new : Branch) → n ≡ length (files id) → IsBranch os old
        → TakesTree id n old new → IsBranch os new
    root-branch n old new count h takes =
        elim takes.taken [
          | inl same ↦ subst (IsBranch os) (sym same.1) h
          | inr is ↦ subst (IsBranch os) (sym is) (record {
            directory = tt;
            held = (t, tt);
            counted = count;
            files =
                subst (λ (x : FileMap). AreFiles (listed x)) (sym (taken_map n old))
                (root_good (files_in os old) h.files);
          })
        ]

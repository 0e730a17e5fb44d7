-- What a stored tree at a path leaves, and why it is refused.
use Rattle.std.proofs.Common.{◌≡◌, ◌≢◌, ℕ, ◌+◌, ◌≤◌, true, false, ◌&&◌, leb, List, [], ◌∷◌, ◌++◌}
use Rattle.std.proofs.Common.{length, Option, None, Some, Result, refl, sym, ap, ◌∙◌, subst, arith}
use Rattle.std.specs.Prelude.{IsSome}
use Rattle.std.specs.FinMap as finmap
use Rattle.std.specs.FinMap.{from_sorted}
use Rattle.std.specs.List.{AllByRecursion, list_any}
use Rattle.std.proofs.lemmas.Bool.{leb-true, le-leb}
use Rattle.std.proofs.lemmas.List.{length-append, length-map}
use Rattle.git_model.specs.Content.{Content}
use Rattle.git_model.specs.Repository.{Object, object_named}
use Rattle.git_paths.specs.Paths.{IsWithinLimits, joined}
use Rattle.git_paths.proofs.Below.{tail, joined-append}
use Rattle.tenant_tables.specs.declared.summary.Summary.{Summary}
use Rattle.tenant_tables.specs.SumIn.{sum_in}
use Rattle.file_maps.specs.declared.check.TheConstants.{FILES_LIMIT}
use Rattle.file_maps.specs.declared.entry.Entry.{Entry}
use Rattle.file_maps.specs.declared.fault.Fault.{Fault}
use Rattle.file_maps.specs.FileMap.{Path, Listed, FileMap, is_apart, ArePairwiseApart, AreFiles}
use Rattle.file_maps.specs.Edits.{moved, is_root, fits, put_tree_at, put_fault}
use Rattle.file_maps.specs.Calls.{Edits}
use Rattle.file_maps.specs.Kept.{put_all}
use Rattle.file_maps.specs.Trees.{depth_of, tree_content}
use Rattle.file_maps.specs.Storable.{longest_of, files_summary}
use Rattle.file_maps.specs.PlainTrees.{HasSummary, ListsPlain}
use Rattle.file_maps.specs.StoredTree.{ListsTree, AreFilesOf}
use Rattle.file_maps.specs.Grafts.{Grafts, content_fault, is_small, or_else, tree_fault}
use Rattle.file_maps.proofs.Apart.{both_true, from_both, apart_below, all-weaker, filter-all}
use Rattle.file_maps.proofs.Puts.{true-T, MayPut, AreFiles-filter, length-put_all, sorted-put_all}
use Rattle.file_maps.proofs.Maps.{len-of}
use Rattle.file_maps.proofs.Edited.{kept, edited-is, all_short}
use Rattle.file_maps.proofs.Listing.{IsSound, tree-only, apart-moved}
use Rattle.file_maps.proofs.Standing.{the_summary}

-- ---- limits

-- the bytes of a path's end
joined_end : (top p : Path) → length (joined p) ≤ length (joined (top ++ p))
joined_end [] p = omega arith
joined_end (c ∷ top) [] = omega arith
joined_end (c ∷ top) (d ∷ p) =
    let more = ap length (joined-append c top (d ∷ p)) ∙ length-append (joined (c ∷ top)) (tail (d ∷ p)) in omega arith

-- files whose paths are within the limits after another path
shallow : (top : Path) (fs : Listed) → AllByRecursion (λ f. IsWithinLimits f.0) (moved top fs)
    → depth_of fs ≤ 256
shallow top [] h = omega arith
shallow top (f ∷ fs) h =
    let here = h.0.components in let rest = shallow top fs h.1 in let n = length-append top f.0 in omega arith

short : (top : Path) (fs : Listed) → AllByRecursion (λ f. IsWithinLimits f.0) (moved top fs)
    → longest_of fs ≤ 16383
short top [] h = omega arith
short top (f ∷ fs) h =
    let here = h.0.bytes in let rest = short top fs h.1 in let n = joined_end top f.0 in omega arith

-- a path with something after it is not the root
not_root : (top p : Path) → p ≢ [] → is_root (top ++ p) ≡ false
not_root [] [] h = absurd (h refl)
not_root [] (c ∷ p) h = refl
not_root (c ∷ top) p h = refl

pub no_roots : (top : Path) (fs : Listed) → AllByRecursion IsSound fs
    → list_any (λ f. is_root f.0) (moved top fs) ≡ false
no_roots top [] h = refl
no_roots top (f ∷ fs) h = rw (not_root top f.0 h.0.below_the_root) (no_roots top fs h.1)

-- files below a path may be put beside those that stay
may_put : (top : Path) (held fs : Listed) → ArePairwiseApart fs
    → MayPut (kept None top held) (moved top fs)
may_put top held fs apart = record { outside = each fs; apart = apart-moved top fs apart }
  where
    each : (gs : Listed)
        → AllByRecursion (λ f. AllByRecursion (λ g. is_apart f.0 g.0 ≡ true) (kept None top held)) (moved top gs)
    each [] = tt
    each (g ∷ gs) = (
      all-weaker (λ (h : Path × Entry). is_apart top h.0 ≡ true)
          (λ (h : Path × Entry). is_apart (top ++ g.0) h.0 ≡ true) (λ h a. apart_below top g.0 h.0 a)
          (kept None top held) (filter-all (λ (h : Path × Entry). is_apart top h.0) held),
      each gs,
    )

-- the map has these files at least
many : (top : Path) (held fs : Listed) → AreFiles held → ArePairwiseApart fs
    → length fs ≤ finmap.len (put_tree_at (from_sorted held) top fs)
many top held fs h apart =
    let sorted = true-T _ (AreFiles-filter (is_apart top) held h).in_order in
    let same : finmap.len (put_tree_at (from_sorted held) top fs) ≡ length (kept None top held) + length (moved top fs) =
    ap (λ (m : FileMap). finmap.len m) (edited-is None top held (moved top fs) h)
    ∙ len-of (put_all (kept None top held) (moved top fs))
    (sorted-put_all (kept None top held) (moved top fs) sorted)
    ∙ length-put_all (kept None top held) (moved top fs) (may_put top held fs apart) sorted in
    let n : length (moved top fs) ≡ length fs = length-map fs (λ (f : Path × Entry). (top ++ f.0, f.1)) in
    subst (λ (k : ℕ). length fs ≤ k) (sym same) (omega arith)

pub small_if : (top : Path) (held fs : Listed) (s : Summary) → AreFiles held → ArePairwiseApart fs
    → s ≡ files_summary fs → fits (moved top fs) (put_tree_at (from_sorted held) top fs) ≡ true
    → is_small s ≡ true
small_if top held fs s h apart is all =
    let parts = both_true _ _ all in
    let short_paths = all_short (moved top fs) parts.0 in
    let few : finmap.len (put_tree_at (from_sorted held) top fs) ≤ FILES_LIMIT = leb-true _ _ parts.1 in
    let n : length fs ≤ finmap.len (put_tree_at (from_sorted held) top fs) = many top held fs h apart in
    let a = shallow top fs short_paths in
    let b = short top fs short_paths in
    let files : s.files ≡ length fs = ap (λ (x : Summary). x.files) is in
    let depth : s.depth ≡ depth_of fs = ap (λ (x : Summary). x.depth) is in
    let longest : s.longest ≡ longest_of fs = ap (λ (x : Summary). x.longest) is in
    let first : leb s.files FILES_LIMIT ≡ true = le-leb s.files FILES_LIMIT (omega arith) in
    let second : leb s.depth 256 ≡ true = le-leb s.depth 256 (omega arith) in
    let third : leb s.longest 16383 ≡ true = le-leb s.longest 16383 (omega arith) in
    from_both (leb s.files FILES_LIMIT && leb s.depth 256) (leb s.longest 16383)
    (from_both (leb s.files FILES_LIMIT) (leb s.depth 256) first second) third

-- ---- what a call answers

-- a tree that has a summary is not refused
pub no_fault : (os : List Object) (id : List ℕ) (fs : Listed) → ListsPlain os id fs
    → tree_fault os id ≡ None
no_fault os id fs t =
    let s = the_summary (sum_in os id) t.plain in
    ap (λ (o : Option Content). content_fault o (sum_in os id)) t.tree.tree.content
    ∙ ap (λ (o : Option Summary). content_fault (Some (tree_content t.tree.direct)) o) s.1

-- and no other is let in
pub unrefused-summary : (os : List Object) (id : List ℕ) → tree_fault os id ≡ None
    → HasSummary os id
unrefused-summary os id h = by (object_named id os) (sum_in os id) h
  where
    by : (o : Option Content) (s : Option Summary) → content_fault o s ≡ None → IsSome s
    by None s e = cc e
    by (Some c) None e = cc e
    by (Some c) (Some s) e = refl

-- where neither refuses, each does not
pub or_parts : (a b : Option Fault) → or_else a b ≡ None → (a ≡ None) × (b ≡ None)
or_parts None b h = (refl, h)
or_parts (Some e) b h = cc h

-- the files of a tree are its only ones
pub the_files : (os : List Object) (id : List ℕ) (fs : Listed) → ListsTree os id fs
    → AreFilesOf os id fs
the_files os id fs t = record { listed = t; only = λ others u. tree-only os id others fs u t }

module _ {A : Type 0} (os : List Object) (id : List ℕ) (path : Path) (old : FileMap) where
  -- the files of the tree were put, or refused
  pub grafts-edits : (result : Result A Fault) (new : FileMap) (fs : Listed) → ListsPlain os id fs
      → Edits result old new (put_fault (moved path fs) (put_tree_at old path fs)) (put_tree_at old path fs)
      → Grafts result os id path old new
  grafts-edits result new fs t e = record {
    files = fs;
    listed = λ _. the_files os id fs t.tree;
    edits =
        subst
        (λ (o : Option Fault). Edits result old new (or_else o (put_fault (moved path fs) (put_tree_at old path fs))) (put_tree_at old path fs))
        (sym (no_fault os id fs t)) e;
  }

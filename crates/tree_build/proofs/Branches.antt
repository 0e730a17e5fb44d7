-- Branches after an edit: they stand among the objects, and what they mean.
use Rattle.std.proofs.Common.{◌≡◌, ◌≢◌, ℕ, ◌-◌, ◌≤◌, Bool, List, [], filter, length, refl, sym, ap, ◌∙◌, subst, arith}
use Rattle.std.specs.Prelude.{Option}
use Rattle.std.specs.FinMap as finmap
use Rattle.std.specs.FinMap.{same_map, get-retain_keys, get-empty, from_sorted, entries-from_sorted, entries_sorted, same_entries_map}
use Rattle.git_model.specs.Repository.{Object}
use Rattle.git_paths.specs.Order.{path_cmp, path_cmp-total, path_cmp-IsAntisymmetric}
use Rattle.file_maps.specs.FileMap.{Path, Listed, FileMap, AreFiles, listed}
use Rattle.file_maps.specs.Edits.{with_files, without, is_outside}
use Rattle.file_maps.specs.StoredFiles.{stored_files}
use Rattle.file_maps.proofs.Puts.{AreFiles-filter}
use Rattle.file_maps.proofs.Maps.{listed-of, retain_keys-of}
use Rattle.tree_build.specs.Shape.{What, file, unopened, opened, Shape, Held, shape_files, held_files}
use Rattle.tree_build.specs.Branch.{Branch, root_files, files_in, slash_after, IsDirectory, IsHeld, IsBranch, closed_along}
use Rattle.tree_build.specs.Editing.{new_directory, dropped, taken}
use Rattle.tree_build.specs.Opened.{OpensHeld, recounted, is_kept}
use Rattle.tree_build.proofs.Ordered.{branch_listed}
use Rattle.tree_build.proofs.Mapped.{kept_map}
use Rattle.tree_build.proofs.Dropped.{dropped_shape, dropped_count, dropped_look}

-- ---- file maps

pub map_is : (m : FileMap) → from_sorted (listed m) ≡ m
map_is m = same_entries_map (from_sorted (listed m)) m (entries-from_sorted path_cmp (listed m) (entries_sorted m))

pub kept_files : (m : FileMap) (t : Path → Bool) → AreFiles (listed m)
    → AreFiles (listed (finmap.retain_keys m t))
kept_files m t h =
    let is : from_sorted (filter (λ f. t f.0) (listed m)) ≡ finmap.retain_keys m t = retain_keys-of t (listed m) h
    ∙ ap (λ (x : FileMap). finmap.retain_keys x t) (map_is m) in
    subst (λ (x : FileMap). AreFiles (listed x)) is
    (subst AreFiles (sym (listed-of (filter (λ f. t f.0) (listed m)) (AreFiles-filter t (listed m) h)))
    (AreFiles-filter t (listed m) h))

-- ---- opened along a path

directory_still : (w v : What) → slash_after w ≡ slash_after v → IsDirectory v → IsDirectory w
directory_still (file e) (file x) same h = h
directory_still (file e) (unopened id) same h = cc same
directory_still (file e) (opened tree) same h = cc same
directory_still (unopened id) v same h = tt
directory_still (opened tree) v same h = tt

module _ (os : List Object) where
  pub opened_files : (old new : Branch) → held_files (stored_files os) new.root ≡ held_files (stored_files os) old.root
      → files_in os new ≡ files_in os old
  unfolding files_in
  opened_files old new same = ap (with_files finmap.empty) same

  pub opened_branch : (old : Branch) → IsBranch os old → (path : Path) (h : Held) → OpensHeld os path old.root h
      → (reads : ℕ) → IsBranch os (record { root = h; files = old.files; reads = reads })
  opened_branch old b path h opens reads = record {
    directory = directory_still h.what old.root.what opens.order b.directory;
    held = opens.sound;
    counted = b.counted ∙ ap (λ (fs : Listed). length fs) (sym opens.files);
    files =
        subst (λ (m : FileMap). AreFiles (listed m))
        (sym (opened_files old (record { root = h; files = old.files; reads = reads }) opens.files)) b.files;
  }

  pub branch_few : (b : Branch) → IsBranch os b → length (root_files os b) ≤ 1048576
  branch_few b h = let n = ap (λ (fs : Listed). length fs) (branch_listed os b h.held) in let few = h.files.few in omega arith

  pub branch_small : (b : Branch) → IsBranch os b → b.files ≤ 1048576
  branch_small b h = let few = branch_few b h in let all = h.counted in omega arith

  -- ---- dropped

  module _ (clear : Bool) (path : Path) (some : path ≢ []) (inside : Shape) (tree : Option (List ℕ)) where
    abbrev before : Held
    before = record { what = opened tree; inside = inside }

    pub drop_files : (old : Branch) → old.root ≡ before → IsBranch os old → closed_along inside path ≡ 0
        → (files reads : ℕ)
        → files_in os (record { root = new_directory (dropped clear path inside); files = files; reads = reads })
        ≡ finmap.retain_keys (files_in os old) (is_kept clear path)
    unfolding files_in
    drop_files old is b shut files reads =
        let sound = subst (λ (h : Held). IsHeld os h) is b.held in
        kept_map (shape_files (stored_files os) inside) (shape_files (stored_files os) (dropped clear path inside)) (is_kept clear path)
        (dropped_look os clear path inside sound.1 shut some)
        ∙ ap (λ (h : Held). finmap.retain_keys (with_files finmap.empty (held_files (stored_files os) h)) (is_kept clear path)) (sym is)

    pub drop_branch : (old : Branch) → old.root ≡ before → IsBranch os old → closed_along inside path ≡ 0
        → (files reads : ℕ) → files ≡ old.files - taken (stored_files os) clear path inside
        → IsBranch os (record { root = new_directory (dropped clear path inside); files = files; reads = reads })
    drop_branch old is b shut files reads fewer =
        let sound = subst (λ (h : Held). IsHeld os h) is b.held in
        let n = dropped_count os clear path inside sound.1 shut some in
        let m : old.files ≡ length (shape_files (stored_files os) inside) = b.counted ∙ ap (λ (h : Held). length (held_files (stored_files os) h)) is in
        record {
          directory = tt;
          held = (tt, dropped_shape os clear path inside sound.1);
          counted = fewer ∙ omega arith;
          files =
              subst (λ (x : FileMap). AreFiles (listed x)) (sym (drop_files old is b shut files reads))
              (kept_files (files_in os old) (is_kept clear path) b.files);
        }

    pub drop_few : (old : Branch) → old.root ≡ before → IsBranch os old → closed_along inside path ≡ 0
        → taken (stored_files os) clear path inside ≤ old.files
    drop_few old is b shut =
        let sound = subst (λ (h : Held). IsHeld os h) is b.held in
        let n = dropped_count os clear path inside sound.1 shut some in
        let m : old.files ≡ length (shape_files (stored_files os) inside) = b.counted ∙ ap (λ (h : Held). length (held_files (stored_files os) h)) is in
        omega arith

-- ---- the number of files put right

pub recount : (os : List Object) (b : Branch) → IsBranch os b → (files reads : ℕ)
    → IsBranch os (recounted os (record { root = b.root; files = files; reads = reads }))
recount os b h files reads = record {
  directory = h.directory;
  held = h.held;
  counted = refl;
  files =
      subst (λ (m : FileMap). AreFiles (listed m))
      (sym (opened_files os b (recounted os (record { root = b.root; files = files; reads = reads })) refl))
      h.files;
}

-- ---- the root

pub without_root : (m : FileMap) (path : Path) → path ≡ [] → without m path ≡ finmap.empty
without_root m path is =
    ap (without m) is
    ∙ same_map path_cmp-total path_cmp-IsAntisymmetric _ _ (λ q.
    get-retain_keys m (is_outside []) q (λ x e. refl) ∙ sym (get-empty path_cmp q))

-- What is taken out of a branch to be put elsewhere: what stays is a branch but for its number of files.
use Rattle.std.proofs.Common.{◌≡◌, ◌≢◌, ℕ, ◌+◌, ◌-◌, ◌≤◌, Bool, true, false, cond, List, [], ◌∷◌, filter, length, refl, sym, ap, ◌∙◌, subst, arith}
use Rattle.std.specs.Prelude.{Option, None, Some}
use Rattle.std.specs.FinMap as finmap
use Rattle.git_model.specs.Repository.{Object}
use Rattle.file_maps.specs.FileMap.{Path, Listed, FileMap, listed}
use Rattle.file_maps.specs.Edits.{without}
use Rattle.file_maps.specs.StoredFiles.{stored_files}
use Rattle.file_maps.proofs.Puts.{AreFiles-filter}
use Rattle.file_maps.proofs.Maps.{listed-of, retain_keys-of}
use Rattle.tree_build.specs.Shape.{What, file, unopened, opened, Shape, none, Held, Known, shape_files, held_files}
use Rattle.tree_build.specs.Branch.{Branch, root_files, files_in, IsDirectory, IsHeld, IsBranch, closed_by, closed_along, closed_from}
use Rattle.tree_build.specs.Editing.{child, new_directory, inside_of, entries_in, dropped, taken_by, taken_at, taken}
use Rattle.tree_build.specs.Opened.{recounted, is_kept}
use Rattle.tree_build.specs.Moving.{standing, files_of_held, rest_by, rest_of}
use Rattle.tree_build.proofs.Copies.{nothing_stands}
use Rattle.tree_build.proofs.Empty.{bare_files, bare_branch}
use Rattle.tree_build.proofs.Ordered.{branch_listed}
use Rattle.tree_build.proofs.Dropped.{dropped_shape, dropped_count}
use Rattle.tree_build.proofs.Branches.{map_is, opened_files, recount, drop_files, drop_branch, without_root}
use Rattle.tree_build.proofs.OpenStays.{open_dropped}

-- ---- nothing goes

kept_all : {A : Type 0} (p : A → Bool) (xs : List A) → length xs ≤ length (filter p xs) → filter p xs ≡ xs
kept_all p [] h = refl
kept_all {A = A} p (x ∷ xs) h = by (p x) (no_more xs) (kept_all p xs) h
  where
    no_more : (ys : List A) → length (filter p ys) ≤ length ys
    no_more [] = omega arith
    no_more (y ∷ ys) = more (p y) (no_more ys)
      where
        more : (b : Bool) → length (filter p ys) ≤ length ys
            → length (cond b (y ∷ filter p ys) (filter p ys)) ≤ length (y ∷ ys)
        more true n = omega arith
        more false n = omega arith

    by : (b : Bool) → length (filter p xs) ≤ length xs
        → (length xs ≤ length (filter p xs) → filter p xs ≡ xs)
        → length (x ∷ xs) ≤ length (cond b (x ∷ filter p xs) (filter p xs))
        → cond b (x ∷ filter p xs) (filter p xs) ≡ x ∷ xs
    by true n more h = ap (λ (ys : List A). x ∷ ys) (more (omega arith))
    by false n more h = absurd (omega arith)

module _ (os : List Object) where
  abbrev known : Known
  known = stored_files os

  -- where no file is taken out, the map is as it was
  pub none_gone : (clear : Bool) (path : Path) → path ≢ [] → (inside : Shape) (tree : Option (List ℕ))
      → (old : Branch) → old.root ≡ record { what = opened tree; inside = inside } → IsBranch os old
      → closed_along inside path ≡ 0 → taken known clear path inside ≡ 0
      → files_in os old ≡ finmap.retain_keys (files_in os old) (is_kept clear path)
  none_gone clear path ne inside tree old is b shut none_taken =
      let m = files_in os old in
      let sound = subst (λ (h : Held). IsHeld os h) is b.held in
      let left : Branch = record { root = new_directory (dropped clear path inside); files = 0; reads = 0 } in
      let there : finmap.from_sorted (filter (λ f. is_kept clear path f.0) (listed m))
      ≡ finmap.retain_keys m (is_kept clear path) = retain_keys-of (is_kept clear path) (listed m) b.files
      ∙ ap (λ (x : FileMap). finmap.retain_keys x (is_kept clear path)) (map_is m) in
      let few : length (listed m) ≡ length (filter (λ f. is_kept clear path f.0) (listed m)) =
      ap (λ (fs : Listed). length fs) (branch_listed os old b.held)
      ∙ ap (λ (h : Held). length (held_files known h)) is
      ∙ counts sound
      ∙ ap (λ (fs : Listed). length fs)
      (sym (branch_listed os left (tt, dropped_shape os clear path inside sound.1))
      ∙ ap (λ (x : FileMap). listed x) (drop_files os clear path ne inside tree old is b shut 0 0)
      ∙ sym (ap (λ (x : FileMap). listed x) there)
      ∙ listed-of (filter (λ f. is_kept clear path f.0) (listed m))
      (AreFiles-filter (is_kept clear path) (listed m) b.files)) in
      sym (map_is m)
      ∙ ap (λ (fs : Listed). finmap.from_sorted fs)
      (sym (kept_all (λ f. is_kept clear path f.0) (listed m) (omega arith)))
      ∙ there
    where
      counts : IsHeld os (record { what = opened tree; inside = inside })
          → length (shape_files known inside) ≡ length (shape_files known (dropped clear path inside))
      counts sound = let n = dropped_count os clear path inside sound.1 shut ne in omega arith

  -- ---- what is taken out

  -- as many files as stand there
  no_files_there : (path : Path) → 0 ≡ length (files_of_held known (standing path None))
  no_files_there path = sym (ap (λ (o : Option Held). length (files_of_held known o)) (nothing_stands path))

  taken_below : (path : Path) (o : Option Held)
      → taken_at known false path o (taken known false path (entries_in o))
      ≡ length (files_of_held known (standing path o))
  taken_below [] None = refl
  taken_below [] (Some k) = refl
  taken_below (d ∷ path) None = no_files_there path
  taken_below (d ∷ path) (Some k) = by k.what (taken_below path (child k.inside d))
    where
      by : (w : What)
          → taken known false (d ∷ path) k.inside
          ≡ length (files_of_held known (standing path (child k.inside d)))
          → taken_by known false w k (taken known false (d ∷ path) (inside_of w k.inside))
          ≡ length (files_of_held known (standing path (child (inside_of w k.inside) d)))
      by (file e) more = no_files_there path
      by (unopened id) more = no_files_there path
      by (opened tree) more = more

  -- what stood at a path is gone, but it is still in the number of files
  pub record IsLeft (path : Path) (b left : Branch) : Type 0 where
    pub branch : IsBranch os (recounted os left)
    pub files : files_in os left ≡ without (files_in os b) path
    pub count : length (root_files os b) ≡ length (root_files os left)
        + length (files_of_held known (standing path (Some b.root)))
    pub stays : (q : Path) → closed_from left.root q ≤ closed_from b.root q

  pub rest_is : (path : Path) (b : Branch) → IsBranch os b → closed_from b.root path ≡ 0
      → (files reads : ℕ) → IsLeft path b (record { root = rest_of path b.root; files = files; reads = reads })
  rest_is [] b h shut files reads = record {
    branch = recount os _ (bare_branch os None none reads refl refl) files reads;
    files =
        opened_files os (record { root = new_directory none; files = 0; reads = reads })
        (record { root = new_directory none; files = files; reads = reads }) refl
        ∙ bare_files os None none reads refl
        ∙ sym (without_root (files_in os b) [] refl);
    count =
        let all : length (files_of_held known (standing [] (Some b.root))) ≡ length (root_files os b) = refl in
        omega arith;
    stays = λ q. omega arith;
  }
  rest_is (c ∷ path) b h shut files reads = by b.root.what refl
    where
      by : (w : What) → b.root.what ≡ w
          → IsLeft (c ∷ path) b (record { root = rest_by (c ∷ path) w b.root; files = files; reads = reads })
      by (file e) is = absurd (subst IsDirectory is h.directory)
      by (unopened id) is =
          let none_left = sym shut ∙ ap (λ (w : What). closed_by w (closed_along b.root.inside (c ∷ path)) (length (c ∷ path))) is in
          absurd (omega arith)
      by (opened tree) is =
          let root : b.root ≡ record { what = opened tree; inside = b.root.inside } =
          λ i. record { what = is i; inside = b.root.inside } in
          let sound = subst (λ (x : Held). IsHeld os x) root h.held in
          let closed : closed_along b.root.inside (c ∷ path) ≡ 0 =
          sym (ap (λ (w : What). closed_by w (closed_along b.root.inside (c ∷ path)) (length (c ∷ path))) is) ∙ shut in
          let good = drop_branch os false (c ∷ path) (λ z. cc z) b.root.inside tree b root h closed
          (b.files - taken known false (c ∷ path) b.root.inside) reads refl in
          let n = dropped_count os false (c ∷ path) b.root.inside sound.1 closed (λ z. cc z) in
          let m = taken_below path (child b.root.inside c) in
          let all = ap (λ (x : Held). length (held_files known x)) root in
          let stood = ap (λ (x : Held). length (files_of_held known (standing (c ∷ path) (Some x)))) root in
          record {
            branch = recount os _ good files reads;
            files = drop_files os false (c ∷ path) (λ z. cc z) b.root.inside tree b root h closed files reads;
            count = all ∙ sym n ∙ ap (λ (k : ℕ). length (shape_files known (dropped false (c ∷ path) b.root.inside)) + k) (m ∙ sym stood);
            stays = λ q.
                let same = ap (λ (x : Held). closed_from x q) root in
                let less = open_dropped os false (c ∷ path) b.root.inside sound.1 q in omega arith;
          }

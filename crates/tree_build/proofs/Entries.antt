-- One entry of a directory, and what stays beside it.
use Rattle.std.proofs.Common.{◌≡◌, ℕ, ◌+◌, ◌≤◌, Bool, true, false, cond, List, [], ◌∷◌, refl, ap, ◌∙◌, subst, arith}
use Rattle.std.specs.Prelude.{Option, None, Some, length}
use Rattle.std.specs.Str.{bytes_eq}
use Rattle.git_model.specs.Repository.{Object}
use Rattle.git_paths.proofs.Cases.{by_cases}
use Rattle.file_maps.specs.FileMap.{Path}
use Rattle.file_maps.specs.StoredFiles.{stored_files}
use Rattle.tree_build.specs.Shape.{What, file, unopened, opened, Shape, none, row, Held, Known, shape_files, held_files}
use Rattle.tree_build.specs.Branch.{slash_after, IsRow, IsShape, closed_by, closed_along}
use Rattle.tree_build.specs.Editing.{child, removed, inserted, new_directory, inside_of, entries_in, is_opened, has_opened, put_next, put_back}
use Rattle.tree_build.proofs.Look.{is_bytes}
use Rattle.tree_build.proofs.Beside.{child_removed, beside_removed, child_inserted, beside_inserted, child_changed, beside_changed, IsEntry, shape_removed, shape_inserted, shape_changed, count_child, count_removed, count_inserted, count_changed}

pub one_held : (x y : Held) → Some x ≡ Some y → x ≡ y
one_held x y e = cc e

-- ---- unopened trees below an entry

abbrev pub closed_child : Option Held → Path → ℕ
closed_child None path = 0
closed_child (Some h) path = closed_by h.what (closed_along h.inside path) (length path)

pub closed_at : (s : Shape) (c : List ℕ) (path : Path)
    → closed_along s (c ∷ path) ≡ closed_child (child s c) path
closed_at none c path = refl
closed_at (row d w inside rest) c path =
    by_cases (bytes_eq d c) (λ yea. rw yea refl) (λ nay. rw nay (closed_at rest c path))

-- ---- what stands under a name

module _ (os : List Object) where
  pub entry_at : (s : Shape) → IsShape os s → (c : List ℕ) (k : Held) → child s c ≡ Some k
      → IsEntry os c k
  entry_at none h c k there = cc there
  entry_at (row d w inside rest) h c k there =
      by_cases (bytes_eq d c)
      (λ yea.
      let is = is_bytes d c yea in
      let one = one_held (record { what = w; inside = inside }) k (subst (λ (b : Bool). cond b (Some (record { what = w; inside = inside })) (child rest c) ≡ Some k) yea there) in
      subst (λ (x : Held). IsEntry os c x) one (subst (λ (x : List ℕ). IsRow os x w (shape_files (stored_files os) inside)) is h.0, h.2))
      (λ nay. entry_at rest h.3 c k (subst (λ (b : Bool). cond b (Some (record { what = w; inside = inside })) (child rest c) ≡ Some k) nay there))

  pub entries_at : (s : Shape) → IsShape os s → (c : List ℕ) → IsShape os (entries_in (child s c))
  entries_at s h c = by (child s c) refl
    where
      inner : (k : Held) → IsEntry os c k → (w : What) → IsShape os (inside_of w k.inside)
      inner k e (file x) = tt
      inner k e (unopened id) = tt
      inner k e (opened tree) = e.1

      by : (o : Option Held) → child s c ≡ o → IsShape os (entries_in o)
      by None is = tt
      by (Some k) is = inner k (entry_at s h c k is) k.what

pub count_there : (known : Known) (s : Shape) (c : List ℕ) (k : Held) → child s c ≡ Some k
    → length (held_files known k) ≤ length (shape_files known s)
count_there known s c k there =
    let n = count_removed known s c in
    let m = ap (count_child known) there in omega arith

-- ---- an entry in place of another

-- what stands at the name then
abbrev pub next : Path → Held → Shape → Held
next [] h below = h
next (d ∷ path) h below = new_directory below

slash_opened : (w : What) → is_opened w ≡ true → (tree : Option (List ℕ)) → slash_after (opened tree) ≡ slash_after w
slash_opened (file e) o tree = cc o
slash_opened (unopened id) o tree = cc o
slash_opened (opened other) o tree = refl

opened_there : (o : Option Held) → has_opened o ≡ true → (k : Held) × (o ≡ Some k) × (is_opened k.what ≡ true)
opened_there None h = cc h
opened_there (Some k) h = (k, refl, h)

abbrev instead : Shape → List ℕ → Held → Shape
instead s c h = inserted c h (removed s c)

module _ (os : List Object) (s : Shape) (sound : IsShape os s) (c : List ℕ) where
  instead_shape : (h : Held) → IsEntry os c h → IsShape os (instead s c h)
  instead_shape h e =
      shape_inserted os c h e (removed s c) (shape_removed os s sound c) (child_removed os s sound c)

  instead_child : (h : Held) → child (instead s c h) c ≡ Some h
  instead_child h = child_inserted c h (removed s c) (child_removed os s sound c)

  instead_beside : (h : Held) (x : List ℕ) → bytes_eq c x ≡ false → child (instead s c h) x ≡ child s x
  instead_beside h x other = beside_inserted c h (removed s c) x other ∙ beside_removed s c x other

  instead_count : (known : Known) (h : Held)
      → length (shape_files known (instead s c h)) + count_child known (child s c)
      ≡ length (shape_files known s) + length (held_files known h)
  instead_count known h =
      let a = count_inserted known c h (removed s c) in
      let b = count_removed known s c in omega arith

  -- ---- put

  pub put_shape : (path : Path) (h : Held) (below : Shape) → IsEntry os c (next path h below)
      → IsShape os (put_next s c path h below)
  put_shape [] h below e = instead_shape h e
  put_shape (d ∷ path) h below e =
      by_cases (has_opened (child s c))
      (λ yea. let k = opened_there (child s c) yea in
      rw yea (shape_changed os s sound c (new_directory below) k.0 k.1 (slash_opened k.0.what k.2 None) e))
      (λ nay. rw nay (instead_shape (new_directory below) e))

  pub put_child : (path : Path) (h : Held) (below : Shape)
      → child (put_next s c path h below) c ≡ Some (next path h below)
  put_child [] h below = instead_child h
  put_child (d ∷ path) h below =
      by_cases (has_opened (child s c))
      (λ yea. let k = opened_there (child s c) yea in
      rw yea (child_changed s c (new_directory below) k.0 k.1))
      (λ nay. rw nay (instead_child (new_directory below)))

  pub put_beside : (path : Path) (h : Held) (below : Shape) (x : List ℕ) → bytes_eq c x ≡ false
      → child (put_next s c path h below) x ≡ child s x
  put_beside [] h below x other = instead_beside h x other
  put_beside (d ∷ path) h below x other =
      by_cases (has_opened (child s c))
      (λ yea. rw yea (beside_changed s c (new_directory below) x other))
      (λ nay. rw nay (instead_beside (new_directory below) x other))

  pub put_count : (known : Known) (path : Path) (h : Held) (below : Shape)
      → length (shape_files known (put_next s c path h below)) + count_child known (child s c)
      ≡ length (shape_files known s) + length (held_files known (next path h below))
  put_count known [] h below = instead_count known h
  put_count known (d ∷ path) h below =
      by_cases (has_opened (child s c))
      (λ yea. let k = opened_there (child s c) yea in
      let n = count_changed known s c (new_directory below) k.0 k.1 in
      let m = ap (count_child known) k.1 in
      rw yea (omega arith))
      (λ nay. rw nay (instead_count known (new_directory below)))

  -- ---- taken out, or put back

  pub back_shape : (o : Option Held)
      → ((h : Held) → o ≡ Some h → IsEntry os c h × ((k : Held) × (child s c ≡ Some k) × (slash_after h.what ≡ slash_after k.what)))
      → IsShape os (put_back s c o)
  back_shape None e = shape_removed os s sound c
  back_shape (Some h) e =
      let x = e h refl in shape_changed os s sound c h x.1.0 x.1.1 x.1.2 x.0

  pub back_child : (o : Option Held)
      → ((h : Held) → o ≡ Some h → (k : Held) × (child s c ≡ Some k))
      → child (put_back s c o) c ≡ o
  back_child None e = child_removed os s sound c
  back_child (Some h) e = let x = e h refl in child_changed s c h x.0 x.1

  pub back_beside : (o : Option Held) (x : List ℕ) → bytes_eq c x ≡ false
      → child (put_back s c o) x ≡ child s x
  back_beside None x other = beside_removed s c x other
  back_beside (Some h) x other = beside_changed s c h x other

  pub back_count : (known : Known) (o : Option Held)
      → ((h : Held) → o ≡ Some h → (k : Held) × (child s c ≡ Some k))
      → length (shape_files known (put_back s c o)) + count_child known (child s c)
      ≡ length (shape_files known s) + count_child known o
  back_count known None e = let n = count_removed known s c in omega arith
  back_count known (Some h) e =
      let x = e h refl in
      let n = count_changed known s c h x.0 x.1 in
      let m = ap (count_child known) x.1 in omega arith

-- What stands at a path of a branch, and what a copy of it means.
use Rattle.std.proofs.Common.{◌≡◌, ℕ, true, List, [], ◌∷◌, ◌++◌, length, refl, sym, ap, ◌∙◌, subst, arith}
use Rattle.std.specs.Prelude.{Option, None, Some}
use Rattle.std.specs.Ordering.{nat_cmp}
use Rattle.std.specs.Cmp.Lexicographic.{slice_cmp}
use Rattle.std.specs.Str.{bytes_eq}
use Rattle.git_model.specs.Repository.{Object}
use Rattle.git_paths.proofs.Cases.{by_cases}
use Rattle.tenant_tables.specs.IsBackedBy.{AreBacked}
use Rattle.file_maps.specs.FileMap.{Path, Listed}
use Rattle.file_maps.specs.Edits.{cut, moved}
use Rattle.file_maps.specs.StoredFiles.{stored_files}
use Rattle.file_maps.specs.PlainTrees.{ListsPlain}
use Rattle.file_maps.proofs.ListedOrder.{cut-root}
use Rattle.file_maps.proofs.KnownTrees.{plain-stored}
use Rattle.tree_build.specs.Shape.{What, file, unopened, opened, Shape, none, row, Held, Known, what_files, shape_files, held_files}
use Rattle.tree_build.specs.Branch.{slash_after, key_of, IsBeforeAll, IsWhat, IsShape, IsHeld, closed_by, closed_along}
use Rattle.tree_build.specs.Editing.{child}
use Rattle.tree_build.specs.Parts.{part_of}
use Rattle.tree_build.specs.Stores.{parts_of}
use Rattle.tree_build.specs.Moving.{standing, files_of_held, copied_what, copied_inside, copied_shape, copied_held}
use Rattle.tree_build.proofs.Look.{is_bytes, turn_bytes}
use Rattle.tree_build.proofs.Held.{spread-parts, are-parts}
use Rattle.tree_build.proofs.Spread.{cut-spread}
use Rattle.tree_build.proofs.Entries.{closed_at, closed_child, entry_at}
use Rattle.tree_build.proofs.Copies.{nothing_stands}

-- the part of a name is what stands there
part-child : (known : Known) (s : Shape) (c : List ℕ)
    → part_of c (parts_of known s) ≡ files_of_held known (child s c)
part-child known none c = refl
part-child known (row d w inside rest) c =
    by_cases (bytes_eq d c)
    (λ yea.
    let same : bytes_eq c d ≡ true = subst (λ (x : List ℕ). bytes_eq c x ≡ true)
    (sym (is_bytes d c yea)) (subst (λ (x : List ℕ). bytes_eq x c ≡ true)
    (is_bytes d c yea) yea) in
    rw (yea, same) refl)
    (λ nay. let other = turn_bytes d c nay in rw (nay, other) (part-child known rest c))

none_cut : (path : Path) → cut path [] ≡ []
none_cut path = refl

module _ (os : List Object) where
  abbrev known : Known
  known = stored_files os

  cut-child : (s : Shape) → IsShape os s → (c : List ℕ) (path : Path)
      → cut (c ∷ path) (shape_files known s) ≡ cut path (files_of_held known (child s c))
  cut-child s h c path =
      ap (cut (c ∷ path)) (spread-parts known s)
      ∙ cut-spread c path (parts_of known s) (are-parts os s h)
      ∙ ap (cut path) (part-child known s c)

  -- what is cut off at a path that was opened stands there
  pub standing-cut : (path : Path) (w : What) (inside : Shape)
      → IsWhat os w (shape_files known inside) → IsShape os inside
      → closed_by w (closed_along inside path) (length path) ≡ 0
      → cut path (what_files known w (shape_files known inside))
      ≡ files_of_held known (standing path (Some (record { what = w; inside = inside })))
  standing-cut [] w inside s k shut = cut-root (what_files known w (shape_files known inside))
  standing-cut (c ∷ path) (file e) inside s k shut = sym
      (ap (files_of_held known) (nothing_stands path))
  standing-cut (c ∷ path) (unopened id) inside s k shut = absurd (omega arith)
  standing-cut (c ∷ path) (opened tree) inside s k shut =
      cut-child inside k c path
      ∙ by (child inside c) refl (sym (closed_at inside c path) ∙ shut)
      (λ h sound shape shut. standing-cut path h.what h.inside sound shape shut)
    where
      by : (o : Option Held) → child inside c ≡ o → closed_child o path ≡ 0
          → ((h : Held) → IsWhat os h.what (shape_files (stored_files os) h.inside)
          → IsShape os h.inside
          → closed_by h.what (closed_along h.inside path) (length path) ≡ 0
          → cut path (held_files (stored_files os) h)
          ≡ files_of_held (stored_files os) (standing path (Some h)))
          → cut path (files_of_held (stored_files os) o)
          ≡ files_of_held (stored_files os) (standing path o)
      by None is shut more = sym (ap (files_of_held (stored_files os)) (nothing_stands path))
      by (Some h) is shut more =
          let e = entry_at os inside k c h is in more h e.0.sound e.1 shut

  -- and is sound
  pub standing-sound : (path : Path) (w : What) (inside : Shape)
      → IsWhat os w (shape_files known inside) → IsShape os inside
      → (k : Held) → standing path (Some (record { what = w; inside = inside })) ≡ Some k
      → IsHeld os k
  standing-sound [] w inside s h k is = subst (λ (x : Held). IsHeld os x)
      (one (record { what = w; inside = inside }) k is) (s, h)
    where
      one : (x y : Held) → Some x ≡ Some y → x ≡ y
      one x y e = cc e
  standing-sound (c ∷ path) (file e) inside s h k is = let n = nothing_stands path in
      cc (sym n ∙ is)
  standing-sound (c ∷ path) (unopened id) inside s h k is = let n = nothing_stands path in
      cc (sym n ∙ is)
  standing-sound (c ∷ path) (opened tree) inside s h k is =
      by (child inside c) refl is
      (λ x sound shape at. standing-sound path x.what x.inside sound shape k at)
    where
      by : (o : Option Held) → child inside c ≡ o → standing path o ≡ Some k
          → ((x : Held) → IsWhat os x.what (shape_files (stored_files os) x.inside)
          → IsShape os x.inside
          → standing path (Some x) ≡ Some k → IsHeld os k) → IsHeld os k
      by None at is more = let n = nothing_stands path in cc (sym n ∙ is)
      by (Some x) at is more = let e = entry_at os inside h c x at in more x e.0.sound e.1 is

-- ---- a copy

slash-copied : (w : What) → slash_after (copied_what w) ≡ slash_after w
slash-copied (file e) = refl
slash-copied (unopened id) = refl
slash-copied (opened None) = refl
slash-copied (opened (Some id)) = refl

before-copied : (c : List ℕ) (w : What) (s : Shape) → IsBeforeAll c w s
    → IsBeforeAll c (copied_what w) (copied_shape s)
before-copied c w none h = tt
before-copied c w (row d v inside rest) h = (
  record {
    names = h.0.names;
    order =
        ap (λ (x : List ℕ). slice_cmp nat_cmp (c ++ x) (key_of d (copied_what v))) (slash-copied w)
        ∙ ap (λ (x : List ℕ). slice_cmp nat_cmp (key_of c w) (d ++ x)) (slash-copied v)
        ∙ h.0.order;
  },
  before-copied c w rest h.1,
)

module _ (digest : List ℕ → List ℕ) (os : List Object) (backed : AreBacked digest os) where
  abbrev files : Shape → Listed
  files s = shape_files (stored_files os) s

  what-copied : (w : What) (inside : Shape) → IsWhat os w (files inside)
      → files (copied_shape inside) ≡ files inside
      → what_files (stored_files os) (copied_what w) (files (copied_inside w (copied_shape inside)))
      ≡ what_files (stored_files os) w (files inside)
  what-copied (file e) inside s same = refl
  what-copied (unopened id) inside s same = refl
  what-copied (opened None) inside s same = same
  what-copied (opened (Some id)) inside s same = plain-stored os id
      (files inside) s

  sound-copied : (w : What) (inside : Shape) → IsWhat os w (files inside)
      → IsWhat os (copied_what w) (files (copied_inside w (copied_shape inside)))
  sound-copied (file e) inside s = s
  sound-copied (unopened id) inside s = s
  sound-copied (opened None) inside s = tt
  sound-copied (opened (Some id)) inside s =
      subst (ListsPlain os id) (sym (plain-stored os id (files inside) s)) s

  inside-copied : (w : What) (inside : Shape) → IsShape os inside
      → IsShape os (copied_inside w inside)
  inside-copied (file e) inside h = tt
  inside-copied (unopened id) inside h = tt
  inside-copied (opened None) inside h = h
  inside-copied (opened (Some id)) inside h = tt

  pub files-copied : (s : Shape) → IsShape os s → files (copied_shape s) ≡ files s
  files-copied none h = refl
  files-copied (row c w inside rest) h =
      let one = what-copied w inside h.0.sound (files-copied inside h.2) in
      let more = files-copied rest h.3 in
      λ i. moved (c ∷ []) (one i) ++ more i

  pub shape-copied : (s : Shape) → IsShape os s → IsShape os (copied_shape s)
  shape-copied none h = tt
  shape-copied (row c w inside rest) h =
      let same = what-copied w inside h.0.sound (files-copied inside h.2) in (
        record {
          name = h.0.name;
          sound = sound-copied w inside h.0.sound;
          some = λ no. h.0.some (sym same ∙ no);
        },
        before-copied c w rest h.1,
        inside-copied w (copied_shape inside) (shape-copied inside h.2),
        shape-copied rest h.3,
      )

  pub held-copied : (h : Held) → IsHeld os h → IsHeld os (copied_held h)
  held-copied h s = (
    sound-copied h.what h.inside s.0,
    inside-copied h.what (copied_shape h.inside)
        (shape-copied h.inside s.1),
  )

  pub held-files-copied : (h : Held) → IsHeld os h
      → held_files (stored_files os) (copied_held h) ≡ held_files (stored_files os) h
  held-files-copied h s = what-copied h.what h.inside s.0 (files-copied h.inside s.1)

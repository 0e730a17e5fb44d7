-- Unopened trees: an edit closes nothing that was opened, except where it puts something.
use Rattle.std.proofs.Common.{◌≡◌, ◌≢◌, ℕ, ◌≤◌, Bool, true, false, cond, List, [], ◌∷◌, ◌++◌, refl, sym, ap, ◌∙◌, subst, arith}
use Rattle.std.specs.Prelude.{Option, None, Some, Result, Ok, Err, OnOk, length}
use Rattle.std.specs.Str.{bytes_eq}
use Rattle.git_model.specs.Repository.{Object}
use Rattle.git_paths.specs.Paths.{strip_prefix}
use Rattle.git_paths.proofs.Cases.{by_cases}
use Rattle.git_paths.proofs.Below.{after_some}
use Rattle.file_maps.specs.declared.entry.Entry.{Entry}
use Rattle.file_maps.specs.FileMap.{Path}
use Rattle.tree_build.specs.Shape.{What, file, unopened, opened, Shape, none, row, Held}
use Rattle.tree_build.specs.Branch.{IsShape, closed_by, closed_along, closed_from}
use Rattle.tree_build.specs.Editing.{child, inside_of, entries_in, unless_empty, left_by, left, put_back, dropped, placed}
use Rattle.tree_build.proofs.Look.{is_bytes}
use Rattle.tree_build.proofs.Entries.{closed_child, closed_at, entries_at, next, put_child, put_beside, back_child, back_beside}
use Rattle.tree_build.proofs.Along.{closed_root, open_rows}

-- ---- dropped

module _ (os : List Object) (clear : Bool) where
  open_left : (path : Path) (k : Held) (below : Shape)
      → ((q : Path) → closed_along below q ≤ closed_along (inside_of k.what k.inside) q)
      → (q : Path) → closed_child (left clear path (Some k) below) q ≤ closed_from k q
  open_left [] k below less q = omega arith
  open_left (d ∷ path) k below less q = by k.what refl (less q)
    where
      kept : (t : Bool) → closed_child (cond t None (Some k)) q ≤ closed_from k q
      kept true = omega arith
      kept false = omega arith

      put : (b : Shape) → closed_child (unless_empty b) q ≤ closed_along b q
      put none = omega arith
      put (row c w inside rest) = omega arith

      by : (w : What) → k.what ≡ w → closed_along below q ≤ closed_along (inside_of w k.inside) q
          → closed_child (left_by clear w k below) q ≤ closed_from k q
      by (file e) is l = kept clear
      by (unopened id) is l = omega arith
      by (opened tree) is l =
          let same : closed_from k q ≡ closed_along k.inside q = ap
          (λ (w : What). closed_by w (closed_along k.inside q) (length q)) is in
          let n = put below in omega arith

  open_back : (path : Path) (o : Option Held) (below : Shape)
      → ((q : Path) → closed_along below q ≤ closed_along (entries_in o) q)
      → (q : Path) → closed_child (left clear path o below) q ≤ closed_child o q
  open_back [] None below less q = omega arith
  open_back (d ∷ path) None below less q = omega arith
  open_back path (Some k) below less q = open_left path k below less q

  there : (path : Path) (o : Option Held) (below : Shape) (h : Held)
      → left clear path o below ≡ Some h
      → (k : Held) × (o ≡ Some k)
  there [] None below h is = cc is
  there (d ∷ path) None below h is = cc is
  there path (Some k) below h is = (k, refl)

  pub open_dropped : (path : Path) (s : Shape) → IsShape os s → (q : Path)
      → closed_along (dropped clear path s) q ≤ closed_along s q
  open_dropped [] s k q = omega arith
  open_dropped (c ∷ path) s k q =
      let below = dropped clear path (entries_in (child s c)) in
      let o = left clear path (child s c) below in
      open_rows s (put_back s c o) (λ x r.
      by_cases (bytes_eq c x)
      (λ yea. subst (λ (y : List ℕ). closed_child (child (put_back s c o) y) r
      ≤ closed_child (child s y) r) (is_bytes c x yea)
      (let a = ap (λ (z : Option Held). closed_child z r)
      (back_child os s k c o (λ h is. there path (child s c) below h is)) in
      let n = open_back path (child s c) below
      (open_dropped path (entries_in (child s c)) (entries_at os s k c)) r in omega arith))
      (λ nay. let a = ap (λ (z : Option Held). closed_child z r) (back_beside os s k c o x nay) in
      omega arith)) q

-- ---- put

entries_less : (o : Option Held) (q : Path) → closed_along (entries_in o) q ≤ closed_child o q
entries_less None q = omega arith
entries_less (Some k) q = by k.what
  where
    by : (w : What) → closed_along (inside_of w k.inside) q
        ≤ closed_by w (closed_along k.inside q) (length q)
    by (file e) = omega arith
    by (unopened id) = omega arith
    by (opened tree) = omega arith

module _ (os : List Object) (h : Held) where
  -- what stands at the destination, or below it, is what was put
  beside : (c : List ℕ) (path : Path) (x : List ℕ) (q : Path) → bytes_eq c x ≡ true
      → strip_prefix (c ∷ path) (x ∷ q) ≡ None → strip_prefix path q ≡ None
  beside c path x q yea out = subst (λ (b : Bool). cond b (strip_prefix path q) None ≡ None) yea out

  pub open_placed : (path : Path) (s : Shape) → IsShape os s → (q : Path) → strip_prefix path q ≡ None
      → closed_along (placed path h s) q ≤ closed_along s q
  open_placed [] s k q out = cc out
  open_placed (c ∷ path) s k [] out =
      let a = closed_root s in let b = closed_root (placed (c ∷ path) h s) in omega arith
  open_placed (c ∷ path) s k (x ∷ q) out =
      let below = placed path h (entries_in (child s c)) in
      let a = closed_at (placed (c ∷ path) h s) x q in
      let b = closed_at s x q in
      by_cases (bytes_eq c x)
      (λ yea.
      let is = is_bytes c x yea in
      let here = ap (λ (z : Option Held). closed_child z q)
      (ap (child (placed (c ∷ path) h s)) (sym is) ∙ put_child os s k c path h below) in
      let there = ap (λ (y : List ℕ). closed_child (child s y) q) is in
      let out_too = beside c path x q yea out in
      let less = inner c path s q out_too (open_placed path (entries_in (child s c))
      (entries_at os s k c) q out_too) in omega arith)
      (λ nay. let n = ap (λ (z : Option Held). closed_child z q)
      (put_beside os s k c path h below x nay) in omega arith)
    where
      inner : (c : List ℕ) (path : Path) (s : Shape) (q : Path) → strip_prefix path q ≡ None
          → closed_along (placed path h (entries_in (child s c))) q
          ≤ closed_along (entries_in (child s c)) q
          → closed_from (next path h (placed path h (entries_in (child s c)))) q
          ≤ closed_child (child s c) q
      inner c [] s q out n = cc out
      inner c (d ∷ path) s q out n = let m = entries_less (child s c) q in omega arith

  -- at and below the destination stands what was put
  pub closed_placed : (path : Path) → path ≢ [] → (s : Shape) → IsShape os s → (r : Path)
      → closed_along (placed path h s) (path ++ r) ≡ closed_from h r
  closed_placed [] ne s k r = absurd (ne refl)
  closed_placed (c ∷ path) ne s k r =
      closed_at (placed (c ∷ path) h s) c (path ++ r)
      ∙ ap (λ (z : Option Held). closed_child z (path ++ r))
      (put_child os s k c path h (placed path h (entries_in (child s c))))
      ∙ inner c path s (λ some. closed_placed path some (entries_in (child s c))
      (entries_at os s k c) r)
    where
      inner : (c : List ℕ) (path : Path) (s : Shape)
          → (path ≢ [] → closed_along (placed path h (entries_in (child s c))) (path ++ r)
          ≡ closed_from h r)
          → closed_from (next path h (placed path h (entries_in (child s c)))) (path ++ r)
          ≡ closed_from h r
      inner c [] s n = refl
      inner c (d ∷ path) s n = n (λ e. cc e)

-- ---- a file

-- where two facts of what was done stand
pub on_ok_both : {T E : Type 0} {P Q R : Type 0} (r : Result T E) → (P → Q → R) → OnOk r P
    → OnOk r Q → OnOk r R
on_ok_both (Ok x) f p q = f p q
on_ok_both (Err e) f p q = tt

-- a file that was put closes nothing, at its path neither
pub open_file : (first old new : Held) (path : Path) (e : Entry)
    → ((q : Path) → closed_from old q ≤ closed_from first q)
    → ((q : Path) → strip_prefix path q ≡ None → closed_from new q ≤ closed_from old q)
    → ((r : Path) → closed_from new (path ++ r)
    ≡ closed_from (record { what = file e; inside = none }) r)
    → (q : Path) → closed_from new q ≤ closed_from first q
open_file first old new path e opens less there q = by (strip_prefix path q) refl
  where
    by : (o : Option Path) → strip_prefix path q ≡ o → closed_from new q ≤ closed_from first q
    by None out = let a = less q out in let b = opens q in omega arith
    by (Some r) is =
        let zero : closed_from new q ≡ 0 = ap (closed_from new) (after_some path q r is)
        ∙ there r in omega arith

-- What is put at a path: the directories stay sound, and what stands at each path then.
use Rattle.std.proofs.Common.{◌≡◌, ◌≢◌, ℕ, ◌+◌, ◌<◌, Bool, true, false, cond, List, [], ◌∷◌, refl, sym, ap, ◌∙◌, subst, arith}
use Rattle.std.specs.Prelude.{Option, None, Some, length}
use Rattle.std.specs.Str.{bytes_eq}
use Rattle.std.proofs.lemmas.List.Elements.{All-head, All-tail}
use Rattle.std.proofs.lemmas.Slice.Eq.{bytes_eq-Decides}
use Rattle.git_model.specs.Repository.{Object}
use Rattle.git_paths.specs.Paths.{IsComponent, IsPath, strip_prefix}
use Rattle.git_paths.proofs.Cases.{by_cases}
use Rattle.file_maps.specs.declared.entry.Entry.{Entry}
use Rattle.file_maps.specs.FileMap.{Path, Listed, is_apart}
use Rattle.file_maps.specs.StoredFiles.{stored_files}
use Rattle.tree_build.specs.Shape.{What, file, unopened, opened, Shape, Held, Known, what_files, shape_files, held_files}
use Rattle.tree_build.specs.Branch.{IsShape, IsHeld, closed_by, closed_along}
use Rattle.tree_build.specs.Editing.{child, new_directory, inside_of, entries_in, placed, taken_by, taken_at, taken}
use Rattle.tree_build.proofs.Look.{look, look_child, look_shape, shape_root, is_bytes, turn_bytes}
use Rattle.tree_build.proofs.Beside.{count_child}
use Rattle.tree_build.proofs.Entries.{closed_child, closed_at, entries_at, count_there, put_shape, put_child, put_beside, put_count}

some_files : (fs : Listed) → 0 < length fs → fs ≢ []
some_files [] h e = absurd (omega arith)
some_files (f ∷ fs) h e = cc e

pub no_files : (fs : Listed) → fs ≢ [] → 0 < length fs
no_files [] h = absurd (h refl)
no_files (f ∷ fs) h = omega arith

-- what stands at a path after something was put at another
abbrev pub put_by : Option Path → Bool → Listed → Option Entry → Option Entry
put_by (Some rest) apart files old = look rest files
put_by None apart files old = cond apart old None

module _ (os : List Object) (h : Held) (held : IsHeld os h)
    (some : held_files (stored_files os) h ≢ []) where
  abbrev known : Known
  known = stored_files os

  abbrev files : Shape → Listed
  files s = shape_files known s

  pub placed_some : (path : Path) (c : List ℕ) (s : Shape) → IsShape os s
      → 0 < length (files (placed (c ∷ path) h s))
  placed_some [] c s k =
      let below = placed [] h (entries_in (child s c)) in
      let n = count_there known (placed (c ∷ []) h s) c h (put_child os s k c [] h below) in
      let m = no_files (held_files known h) some in omega arith
  placed_some (d ∷ path) c s k =
      let below = placed (d ∷ path) h (entries_in (child s c)) in
      let n = count_there known (placed (c ∷ d ∷ path) h s) c (new_directory below)
      (put_child os s k c (d ∷ path) h below) in
      let m = placed_some path d (entries_in (child s c)) (entries_at os s k c) in omega arith

  pub placed_shape : (path : Path) (c : List ℕ) → IsPath (c ∷ path) → (s : Shape) → IsShape os s
      → IsShape os (placed (c ∷ path) h s)
  placed_shape [] c p s k =
      put_shape os s k c [] h (placed [] h (entries_in (child s c)))
      (record { name = (All-head IsComponent c [] p); sound = held.0; some = some }, held.1)
  placed_shape (d ∷ path) c p s k =
      let inner = entries_at os s k c in
      put_shape os s k c (d ∷ path) h (placed (d ∷ path) h (entries_in (child s c))) (
        record {
          name = (All-head IsComponent c (d ∷ path) p);
          sound = tt;
          some = some_files (files (placed (d ∷ path) h (entries_in (child s c)))) (placed_some path d (entries_in (child s c)) inner);
        },
        placed_shape path d (All-tail IsComponent c (d ∷ path) p) (entries_in (child s c)) inner,
      )

  -- ---- how many files

  pub placed_count : (path : Path) (c : List ℕ) (s : Shape) → IsShape os s
      → closed_along s (c ∷ path) ≡ 0
      → length (files (placed (c ∷ path) h s)) + taken known true (c ∷ path) s
      ≡ length (files s) + length (held_files known h)
  placed_count [] c s k shut =
      let n = put_count os s k c known [] h (placed [] h (entries_in (child s c))) in by (child s c) n
    where
      by : (o : Option Held) → length (files (placed (c ∷ []) h s)) + count_child known o ≡ length (files s) + length (held_files known h)
          → length (files (placed (c ∷ []) h s)) + taken_at known true [] o (taken known true [] (entries_in o)) ≡ length (files s) + length (held_files known h)
      by None n = n
      by (Some k) n = n
  placed_count (d ∷ path) c s k shut =
      let below = placed (d ∷ path) h (entries_in (child s c)) in
      let n = put_count os s k c known (d ∷ path) h below in
      by (child s c) (sym (closed_at s c (d ∷ path)) ∙ shut) n
      (λ closed. placed_count path d (entries_in (child s c)) (entries_at os s k c) closed)
    where
      by : (o : Option Held) → closed_child o (d ∷ path) ≡ 0
          → length (files (placed (c ∷ d ∷ path) h s)) + count_child known o ≡ length (files s) + length (files (placed (d ∷ path) h (entries_in o)))
          → (closed_along (entries_in o) (d ∷ path) ≡ 0
          → length (files (placed (d ∷ path) h (entries_in o))) + taken known true (d ∷ path) (entries_in o) ≡ length (files (entries_in o)) + length (held_files known h))
          → length (files (placed (c ∷ d ∷ path) h s)) + taken_at known true (d ∷ path) o (taken known true (d ∷ path) (entries_in o)) ≡ length (files s) + length (held_files known h)
      by None shut n more = let m = more refl in omega arith
      by (Some k) shut n more = what k.what shut n more
        where
          what : (w : What) → closed_by w (closed_along k.inside (d ∷ path)) (length (d ∷ path)) ≡ 0
              → length (files (placed (c ∷ d ∷ path) h s)) + length (what_files known w (files k.inside)) ≡ length (files s) + length (files (placed (d ∷ path) h (inside_of w k.inside)))
              → (closed_along (inside_of w k.inside) (d ∷ path) ≡ 0
              → length (files (placed (d ∷ path) h (inside_of w k.inside))) + taken known true (d ∷ path) (inside_of w k.inside) ≡ length (files (inside_of w k.inside)) + length (held_files known h))
              → length (files (placed (c ∷ d ∷ path) h s)) + taken_by known true w k (taken known true (d ∷ path) (inside_of w k.inside)) ≡ length (files s) + length (held_files known h)
          what (file e) shut n more = let m = more refl in omega arith
          what (unopened id) shut n more = absurd (omega arith)
          what (opened tree) shut n more = let m = more shut in omega arith

  -- ---- what stands at each path

  abbrev goal : Path → Path → Option Entry → Option Entry
  goal p q old = put_by (strip_prefix p q) (is_apart p q) (held_files known h) old

  -- nothing of what stood there at the name itself is seen
  goal_inner : (d : List ℕ) (path : Path) (o : Option Held) → closed_child o (d ∷ path) ≡ 0
      → (r : Path)
      → goal (d ∷ path) r (look r (files (entries_in o))) ≡ goal (d ∷ path) r (look_child known o r)
  goal_inner d path None shut r = refl
  goal_inner d path (Some k) shut r = what k.what shut r
    where
      what : (w : What) → closed_by w (closed_along k.inside (d ∷ path)) (length (d ∷ path)) ≡ 0
          → (r : Path) → goal (d ∷ path) r (look r (files (inside_of w k.inside)))
          ≡ goal (d ∷ path) r (look r (what_files known w (files k.inside)))
      what (file e) shut [] = refl
      what (file e) shut (x ∷ r) = refl
      what (unopened id) shut r = absurd (omega arith)
      what (opened tree) shut r = refl

  goal_here : (c : List ℕ) (p r : Path) (old : Option Entry)
      → goal (c ∷ p) (c ∷ r) old ≡ goal p r old
  goal_here c p r old = let here = (bytes_eq-Decides c c).1 refl in rw here refl

  goal_beside : (c x : List ℕ) (p r : Path) (old : Option Entry) → bytes_eq c x ≡ false
      → goal (c ∷ p) (x ∷ r) old ≡ old
  goal_beside c x p r old nay = let back = turn_bytes c x nay in rw (nay, back) refl

  pub placed_look : (path : Path) (c : List ℕ) → IsPath (c ∷ path) → (s : Shape) → IsShape os s
      → closed_along s (c ∷ path) ≡ 0 → (q : Path)
      → look q (files (placed (c ∷ path) h s)) ≡ goal (c ∷ path) q (look q (files s))
  placed_look path c p s k shut [] = shape_root known (placed (c ∷ path) h s)
  placed_look [] c p s k shut (x ∷ r) =
      by_cases (bytes_eq c x)
      (λ yea.
      subst (λ (z : List ℕ). look (z ∷ r) (files (placed (c ∷ []) h s)) ≡ goal (c ∷ []) (z ∷ r) (look (z ∷ r) (files s)))
      (is_bytes c x yea)
      (look_shape os (placed (c ∷ []) h s) (placed_shape [] c p s k) c r
      ∙ ap (λ (o : Option Held). look_child known o r) (put_child os s k c [] h (placed [] h (entries_in (child s c))))
      ∙ sym (goal_here c [] r (look (c ∷ r) (files s)))))
      (λ nay.
      look_shape os (placed (c ∷ []) h s) (placed_shape [] c p s k) x r
      ∙ ap (λ (o : Option Held). look_child known o r) (put_beside os s k c [] h (placed [] h (entries_in (child s c))) x nay)
      ∙ sym (look_shape os s k x r)
      ∙ sym (goal_beside c x [] r (look (x ∷ r) (files s)) nay))
  placed_look (d ∷ path) c p s k shut (x ∷ r) =
      let here = sym (closed_at s c (d ∷ path)) ∙ shut in
      by_cases (bytes_eq c x)
      (λ yea.
      subst (λ (z : List ℕ). look (z ∷ r) (files (placed (c ∷ d ∷ path) h s)) ≡ goal (c ∷ d ∷ path) (z ∷ r) (look (z ∷ r) (files s)))
      (is_bytes c x yea)
      (look_shape os (placed (c ∷ d ∷ path) h s) (placed_shape (d ∷ path) c p s k) c r
      ∙ ap (λ (o : Option Held). look_child known o r) (put_child os s k c (d ∷ path) h (placed (d ∷ path) h (entries_in (child s c))))
      ∙ placed_look path d (All-tail IsComponent c (d ∷ path) p) (entries_in (child s c)) (entries_at os s k c) (inner_closed (child s c) here) r
      ∙ goal_inner d path (child s c) here r
      ∙ ap (goal (d ∷ path) r) (sym (look_shape os s k c r))
      ∙ sym (goal_here c (d ∷ path) r (look (c ∷ r) (files s)))))
      (λ nay.
      look_shape os (placed (c ∷ d ∷ path) h s) (placed_shape (d ∷ path) c p s k) x r
      ∙ ap (λ (o : Option Held). look_child known o r) (put_beside os s k c (d ∷ path) h (placed (d ∷ path) h (entries_in (child s c))) x nay)
      ∙ sym (look_shape os s k x r)
      ∙ sym (goal_beside c x (d ∷ path) r (look (x ∷ r) (files s)) nay))
    where
      inner_closed : (o : Option Held) → closed_child o (d ∷ path) ≡ 0 → closed_along (entries_in o) (d ∷ path) ≡ 0
      inner_closed None e = refl
      inner_closed (Some k) e = what k.what e
        where
          what : (w : What) → closed_by w (closed_along k.inside (d ∷ path)) (length (d ∷ path)) ≡ 0
              → closed_along (inside_of w k.inside) (d ∷ path) ≡ 0
          what (file e) shut = refl
          what (unopened id) shut = absurd (omega arith)
          what (opened tree) shut = shut

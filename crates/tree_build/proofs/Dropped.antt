-- What is dropped at a path: the directories stay sound, and what stands at each path then.
use Rattle.std.proofs.Common.{◌≡◌, ◌≢◌, ℕ, ◌+◌, Bool, true, false, cond, List, [], ◌∷◌, ◌++◌, refl, sym, ap, ◌∙◌, subst, arith}
use Rattle.std.specs.Prelude.{Option, None, Some, length}
use Rattle.std.specs.Str.{bytes_eq}
use Rattle.std.proofs.lemmas.Slice.Eq.{bytes_eq-Decides}
use Rattle.git_model.specs.Repository.{Object}
use Rattle.git_paths.proofs.Cases.{by_cases}
use Rattle.file_maps.specs.declared.entry.Entry.{Entry}
use Rattle.file_maps.specs.FileMap.{Path, Listed, is_apart}
use Rattle.file_maps.specs.Edits.{moved, is_outside}
use Rattle.file_maps.specs.StoredFiles.{stored_files}
use Rattle.tree_build.specs.Shape.{What, file, unopened, opened, Shape, none, row, Held, Known, what_files, shape_files, held_files}
use Rattle.tree_build.specs.Branch.{slash_after, IsShape, closed_by, closed_along}
use Rattle.tree_build.specs.Editing.{child, new_directory, inside_of, entries_in, unless_empty, left_by, left, dropped, taken_by, taken_at, taken}
use Rattle.tree_build.proofs.Look.{look, look_child, look_shape, shape_root, is_bytes, turn_bytes}
use Rattle.tree_build.proofs.Beside.{IsEntry, count_child}
use Rattle.tree_build.specs.Opened.{is_kept}
use Rattle.tree_build.proofs.Entries.{one_held, closed_child, closed_at, entry_at, entries_at, back_shape, back_child, back_beside, back_count}

module _ (os : List Object) (clear : Bool) where
  abbrev known : Known
  known = stored_files os

  abbrev files : Shape → Listed
  files s = shape_files known s

  unless_left : (c : List ℕ) (k : Held) (tree : Option (List ℕ)) → k.what ≡ opened tree → (below : Shape)
      → IsShape os below → (h : Held) → unless_empty below ≡ Some h → IsEntry os c k
      → IsEntry os c h × (slash_after h.what ≡ slash_after k.what)
  unless_left c k tree is none b h e entry = cc e
  unless_left c k tree is (row d w inside rest) b h e entry =
      let one = one_held (new_directory (row d w inside rest)) h e in
      subst (λ (x : Held). IsEntry os c x × (slash_after x.what ≡ slash_after k.what)) one (
        (
          record { name = entry.0.name; sound = tt; some = λ no. some_in no },
          b,
        ),
        ap slash_after (sym is),
      )
    where
      lost : (xs : Listed) (ys : Listed) → xs ≢ [] → moved (d ∷ []) xs ++ ys ≡ [] → ⊥
      lost [] ys ne z = ne refl
      lost (x ∷ xs) ys ne z = cc z

      some_in : files (row d w inside rest) ≡ [] → ⊥
      some_in empty = lost (what_files known w (files inside)) (files rest) b.0.some empty

  left_by_is : (c : List ℕ) (k : Held) → IsEntry os c k → (w : What) → k.what ≡ w → (below : Shape)
      → IsShape os below → (h : Held) → left_by clear w k below ≡ Some h
      → IsEntry os c h × (slash_after h.what ≡ slash_after k.what)
  left_by_is c k entry (file e) is below b h left =
      by clear left
    where
      by : (t : Bool) → cond t None (Some k) ≡ Some h
          → IsEntry os c h × (slash_after h.what ≡ slash_after k.what)
      by true z = cc z
      by false z = subst (λ (x : Held). IsEntry os c x × (slash_after x.what ≡ slash_after k.what)) (one_held k h z) (entry, refl)
  left_by_is c k entry (unopened id) is below b h left =
      subst (λ (x : Held). IsEntry os c x × (slash_after x.what ≡ slash_after k.what)) (one_held k h left) (entry, refl)
  left_by_is c k entry (opened tree) is below b h left =
      unless_left c k tree is below b h left entry

  -- what is put back has the sound entry that it came from
  left_is : (path : Path) (c : List ℕ) (s : Shape) → IsShape os s → (below : Shape) → IsShape os below
      → (h : Held) → left clear path (child s c) below ≡ Some h
      → IsEntry os c h × ((k : Held) × (child s c ≡ Some k) × (slash_after h.what ≡ slash_after k.what))
  left_is path c s sound below b h is = by (child s c) refl path is
    where
      by : (o : Option Held) → child s c ≡ o → (path : Path) → left clear path o below ≡ Some h
          → IsEntry os c h × ((k : Held) × (child s c ≡ Some k) × (slash_after h.what ≡ slash_after k.what))
      by None at [] e = cc e
      by None at (d ∷ path) e = cc e
      by (Some k) at [] e = cc e
      by (Some k) at (d ∷ path) e =
          let both = left_by_is c k (entry_at os s sound c k at) k.what refl below b h e in
          (both.0, (k, at, both.1))

  pub dropped_shape : (path : Path) (s : Shape) → IsShape os s → IsShape os (dropped clear path s)
  dropped_shape [] s k = k
  dropped_shape (c ∷ path) s k =
      back_shape os s k c (left clear path (child s c) (dropped clear path (entries_in (child s c))))
      (λ h is. left_is path c s k (dropped clear path (entries_in (child s c)))
      (dropped_shape path (entries_in (child s c)) (entries_at os s k c)) h is)

  there : (path : Path) (c : List ℕ) (s : Shape) → IsShape os s → (h : Held)
      → left clear path (child s c) (dropped clear path (entries_in (child s c))) ≡ Some h
      → (k : Held) × (child s c ≡ Some k)
  there path c s k h is =
      let x = left_is path c s k (dropped clear path (entries_in (child s c)))
      (dropped_shape path (entries_in (child s c)) (entries_at os s k c)) h is in
      (x.1.0, x.1.1)

  -- ---- how many files

  left_count : (below : Shape) → count_child known (unless_empty below) ≡ length (files below)
  left_count none = refl
  left_count (row d w inside rest) = refl

  file_left : (k : Held) (x : Entry) → k.what ≡ file x → (t : Bool) (m n : ℕ)
      → m + 1 ≡ n + count_child known (cond t None (Some k)) → m + cond t 1 0 ≡ n
  file_left k x is true m n e = omega arith
  file_left k x is false m n e =
      let one = ap (λ (w : What). length (what_files known w (files k.inside))) is in omega arith

  pub dropped_count : (path : Path) (s : Shape) → IsShape os s → closed_along s path ≡ 0
      → path ≢ [] → length (files (dropped clear path s)) + taken known clear path s ≡ length (files s)
  dropped_count [] s k shut ne = absurd (ne refl)
  dropped_count (c ∷ path) s k shut ne =
      let n = back_count os s k c known
      (left clear path (child s c) (dropped clear path (entries_in (child s c)))) (λ h is. there path c s k h is) in
      by path (child s c) (sym (closed_at s c path) ∙ shut) n
      (λ closed some. dropped_count path (entries_in (child s c)) (entries_at os s k c) closed some)
    where
      by : (path : Path) (o : Option Held) → closed_child o path ≡ 0
          → length (files (dropped clear (c ∷ path) s)) + count_child known o
          ≡ length (files s) + count_child known (left clear path o (dropped clear path (entries_in o)))
          → (closed_along (entries_in o) path ≡ 0 → path ≢ []
          → length (files (dropped clear path (entries_in o))) + taken known clear path (entries_in o) ≡ length (files (entries_in o)))
          → length (files (dropped clear (c ∷ path) s)) + taken_at known clear path o (taken known clear path (entries_in o)) ≡ length (files s)
      by [] None e n more = omega arith
      by (d ∷ path) None e n more = omega arith
      by [] (Some k) e n more = omega arith
      by (d ∷ path) (Some k) e n more = what k.what refl e n more
        where
          what : (w : What) → k.what ≡ w → closed_by w (closed_along k.inside (d ∷ path)) (length (d ∷ path)) ≡ 0
              → length (files (dropped clear (c ∷ d ∷ path) s)) + length (what_files known w (files k.inside))
              ≡ length (files s) + count_child known (left_by clear w k (dropped clear (d ∷ path) (inside_of w k.inside)))
              → (closed_along (inside_of w k.inside) (d ∷ path) ≡ 0 → (d ∷ path) ≢ []
              → length (files (dropped clear (d ∷ path) (inside_of w k.inside))) + taken known clear (d ∷ path) (inside_of w k.inside) ≡ length (files (inside_of w k.inside)))
              → length (files (dropped clear (c ∷ d ∷ path) s)) + taken_by known clear w k (taken known clear (d ∷ path) (inside_of w k.inside)) ≡ length (files s)
          what (file x) is e n more = file_left k x is clear _ _ n
          what (unopened id) is e n more = absurd (omega arith)
          what (opened tree) is e n more =
              let m = more e (λ z. cc z) in
              let l = left_count (dropped clear (d ∷ path) k.inside) in omega arith

  -- ---- what stands at each path

  abbrev goal : Path → Path → Option Entry → Option Entry
  goal p q old = cond (is_kept clear p q) old None

  goal_here : (c : List ℕ) (p r : Path) (old : Option Entry) → goal (c ∷ p) (c ∷ r) old ≡ goal p r old
  goal_here c p r old = let here = (bytes_eq-Decides c c).1 refl in rw here refl

  goal_beside : (c x : List ℕ) (p r : Path) (old : Option Entry) → bytes_eq c x ≡ false
      → goal (c ∷ p) (x ∷ r) old ≡ old
  goal_beside c x p r old nay = by clear
    where
      by : (t : Bool) → cond (cond t (is_apart (c ∷ p) (x ∷ r)) (is_outside (c ∷ p) (x ∷ r))) old None ≡ old
      by true = let back = turn_bytes c x nay in rw (nay, back) refl
      by false = rw nay refl

  none_by : (b : Bool) → ◌≡◌ {A = Option Entry} (cond b None None) None
  none_by true = refl
  none_by false = refl

  nothing_kept : (p q : Path) → goal p q None ≡ None
  nothing_kept p q = none_by (is_kept clear p q)

  gone : (r : Path) (old : Option Entry) → goal [] r old ≡ None
  gone r old = one clear
    where
      one : (t : Bool) → cond (cond t (is_apart [] r) (is_outside [] r)) old None ≡ None
      one true = refl
      one false = refl

  look_empty : (below : Shape) (r : Path) → look_child known (unless_empty below) r ≡ look r (files below)
  look_empty none r = refl
  look_empty (row d w inside rest) r = refl

  file_look : (k : Held) (x : Entry) → k.what ≡ file x → (d : List ℕ) (path r : Path)
      → look_child known (left_by clear (file x) k none) r
      ≡ goal (d ∷ path) r (look r (what_files known (file x) (files k.inside)))
  file_look k x is d path r = by clear r
    where
      held : (r : Path) → look r (held_files known k) ≡ look r (([], x) ∷ [])
      held r = ap (λ (w : What). look r (what_files known w (files k.inside))) is

      by : (t : Bool) (r : Path)
          → look_child known (cond t None (Some k)) r
          ≡ cond (cond t (is_apart (d ∷ path) r) (is_outside (d ∷ path) r)) (look r (([], x) ∷ [])) None
      by true [] = refl
      by true (y ∷ r) = sym (none_by (is_apart (d ∷ path) (y ∷ r)))
      by false [] = held []
      by false (y ∷ r) = held (y ∷ r) ∙ sym (none_by (is_outside (d ∷ path) (y ∷ r)))

  pub dropped_look : (path : Path) (s : Shape) → IsShape os s → closed_along s path ≡ 0
      → path ≢ [] → (q : Path) → look q (files (dropped clear path s)) ≡ goal path q (look q (files s))
  dropped_look [] s k shut ne q = absurd (ne refl)
  dropped_look (c ∷ path) s k shut ne [] =
      shape_root known (dropped clear (c ∷ path) s)
      ∙ sym (ap (goal (c ∷ path) []) (shape_root known s) ∙ nothing_kept (c ∷ path) [])
  dropped_look (c ∷ path) s k shut ne (x ∷ r) =
      let here = sym (closed_at s c path) ∙ shut in
      by_cases (bytes_eq c x)
      (λ yea.
      subst (λ (z : List ℕ). look (z ∷ r) (files (dropped clear (c ∷ path) s)) ≡ goal (c ∷ path) (z ∷ r) (look (z ∷ r) (files s)))
      (is_bytes c x yea)
      (look_shape os (dropped clear (c ∷ path) s) (dropped_shape (c ∷ path) s k) c r
      ∙ ap (λ (o : Option Held). look_child known o r) (back_child os s k c (left clear path (child s c) (dropped clear path (entries_in (child s c)))) (λ h is. there path c s k h is))
      ∙ by path (child s c) here (λ closed some. dropped_look path (entries_in (child s c)) (entries_at os s k c) closed some r)
      ∙ ap (goal path r) (sym (look_shape os s k c r))
      ∙ sym (goal_here c path r (look (c ∷ r) (files s)))))
      (λ nay.
      look_shape os (dropped clear (c ∷ path) s) (dropped_shape (c ∷ path) s k) x r
      ∙ ap (λ (o : Option Held). look_child known o r) (back_beside os s k c (left clear path (child s c) (dropped clear path (entries_in (child s c)))) x nay)
      ∙ sym (look_shape os s k x r)
      ∙ sym (goal_beside c x path r (look (x ∷ r) (files s)) nay))
    where
      by : (path : Path) (o : Option Held) → closed_child o path ≡ 0
          → (closed_along (entries_in o) path ≡ 0 → path ≢ []
          → look r (files (dropped clear path (entries_in o))) ≡ goal path r (look r (files (entries_in o))))
          → look_child known (left clear path o (dropped clear path (entries_in o))) r ≡ goal path r (look_child known o r)
      by [] None e more = sym (gone r None)
      by (d ∷ path) None e more = sym (nothing_kept (d ∷ path) r)
      by [] (Some k) e more = sym (gone r (look r (held_files known k)))
      by (d ∷ path) (Some k) e more = what k.what refl e more
        where
          what : (w : What) → k.what ≡ w → closed_by w (closed_along k.inside (d ∷ path)) (length (d ∷ path)) ≡ 0
              → (closed_along (inside_of w k.inside) (d ∷ path) ≡ 0 → (d ∷ path) ≢ []
              → look r (files (dropped clear (d ∷ path) (inside_of w k.inside))) ≡ goal (d ∷ path) r (look r (files (inside_of w k.inside))))
              → look_child known (left_by clear w k (dropped clear (d ∷ path) (inside_of w k.inside))) r ≡ goal (d ∷ path) r (look r (what_files known w (files k.inside)))
          what (file x) is e more = file_look k x is d path r
          what (unopened id) is e more = absurd (omega arith)
          what (opened tree) is e more =
              look_empty (dropped clear (d ∷ path) k.inside) r ∙ more e (λ z. cc z)

-- What stands at a path of listed files, and of what a branch holds.
use Rattle.std.proofs.Common.{◌≡◌, ◌≢◌, ℕ, Bool, true, false, cond, List, [], ◌∷◌, ◌++◌, refl, sym, ap, ◌∙◌, subst}
use Rattle.std.specs.Prelude.{Option, None, Some, nat_eq}
use Rattle.std.specs.FinMap as finmap
use Rattle.std.specs.FinMap.{get, get-insert, get-empty}
use Rattle.std.specs.Cmp.Lexicographic.{pointwise}
use Rattle.std.specs.Str.{bytes_eq}
use Rattle.std.proofs.lemmas.Bool.{true≢false}
use Rattle.std.proofs.lemmas.Slice.Eq.{bytes_eq-Decides}
use Rattle.git_model.specs.Repository.{Object}
use Rattle.git_paths.specs.Order.{path_cmp, path_cmp-total, path_cmp-ties}
use Rattle.git_paths.proofs.Cases.{by_cases}
use Rattle.file_maps.specs.declared.entry.Entry.{Entry}
use Rattle.file_maps.specs.FileMap.{Path, Listed, FileMap}
use Rattle.file_maps.specs.Edits.{moved, with_files}
use Rattle.file_maps.specs.StoredFiles.{stored_files}
use Rattle.tree_build.specs.Shape.{What, Shape, none, row, Held, Known, what_files, shape_files, held_files}
use Rattle.tree_build.specs.Branch.{IsBeforeAll, IsShape}
use Rattle.tree_build.specs.Editing.{child}

-- ---- listed files

abbrev pub same : Path → Path → Bool
same p q = pointwise (pointwise nat_eq) p q

abbrev pub look : Path → Listed → Option Entry
look q [] = None
look q (f ∷ fs) = cond (same q f.0) (Some f.1) (look q fs)

abbrev pub or : Option Entry → Option Entry → Option Entry
or (Some e) later = Some e
or None later = later

nothing_later : (o : Option Entry) → or o None ≡ o
nothing_later None = refl
nothing_later (Some e) = refl

pub look_append : (q : Path) (xs ys : Listed) → look q (xs ++ ys) ≡ or (look q xs) (look q ys)
look_append q [] ys = refl
look_append q (x ∷ xs) ys =
    by_cases (same q x.0) (λ yea. rw yea refl) (λ nay. rw nay (look_append q xs ys))

pub look_with : (m : FileMap) (fs : Listed) (q : Path)
    → get (with_files m fs) q ≡ or (look q fs) (get m q)
look_with m [] q = refl
look_with m (f ∷ fs) q =
    get-insert path_cmp-total (with_files m fs) f.0 f.1 q
    ∙ ap (λ (b : Bool). cond b (Some f.1) (get (with_files m fs) q)) (sym (path_cmp-ties q f.0))
    ∙ first (same q f.0) (look_with m fs q)
  where
    first : (b : Bool) → get (with_files m fs) q ≡ or (look q fs) (get m q)
        → cond b (Some f.1) (get (with_files m fs) q) ≡ or (cond b (Some f.1) (look q fs)) (get m q)
    first true h = refl
    first false h = h

pub look_files : (fs : Listed) (q : Path) → get (with_files finmap.empty fs) q ≡ look q fs
look_files fs q = look_with finmap.empty fs q
    ∙ ap (or (look q fs)) (get-empty path_cmp q) ∙ nothing_later (look q fs)

-- ---- below a component

pub look_here : (c : List ℕ) (q : Path) (fs : Listed)
    → look (c ∷ q) (moved (c ∷ []) fs) ≡ look q fs
look_here c q [] = refl
look_here c q (f ∷ fs) =
    let yea = (bytes_eq-Decides c c).1 refl in rw (yea, look_here c q fs) refl

pub look_beside : (x c : List ℕ) (q : Path) (fs : Listed) → bytes_eq x c ≡ false
    → look (x ∷ q) (moved (c ∷ []) fs) ≡ None
look_beside x c q [] nay = refl
look_beside x c q (f ∷ fs) nay = rw (nay, look_beside x c q fs nay) refl

pub look_root : (c : List ℕ) (fs : Listed) → look [] (moved (c ∷ []) fs) ≡ None
look_root c [] = refl
look_root c (f ∷ fs) = look_root c fs

-- ---- what is held

pub is_bytes : (x c : List ℕ) → bytes_eq x c ≡ true → x ≡ c
is_bytes x c yea = (bytes_eq-Decides x c).0 yea

pub not_bytes : (x c : List ℕ) → x ≢ c → bytes_eq x c ≡ false
not_bytes x c ne =
    by_cases (bytes_eq x c) (λ yea. absurd (ne (is_bytes x c yea))) (λ nay. nay)

pub turn_bytes : (x c : List ℕ) → bytes_eq x c ≡ false → bytes_eq c x ≡ false
turn_bytes x c nay =
    not_bytes c x (λ e. true≢false (sym ((bytes_eq-Decides x c).1 (sym e)) ∙ nay))

abbrev pub look_child : Known → Option Held → Path → Option Entry
look_child known None q = None
look_child known (Some h) q = look q (held_files known h)

module _ (known : Known) where
  pub shape_root : (s : Shape) → look [] (shape_files known s) ≡ None
  shape_root none = refl
  shape_root (row c w inside rest) =
      look_append [] (moved (c ∷ []) (what_files known w (shape_files known inside))) (shape_files known rest)
      ∙ ap (λ (o : Option Entry). or o (look [] (shape_files known rest)))
      (look_root c (what_files known w (shape_files known inside)))
      ∙ shape_root rest

  -- after the first entry of a name there is no other
  pub none_after : (c : List ℕ) (w : What) (s : Shape) → IsBeforeAll c w s → (q : Path)
      → look (c ∷ q) (shape_files known s) ≡ None
  none_after c w none h q = refl
  none_after c w (row d v inside rest) h q =
      look_append (c ∷ q) (moved (d ∷ []) (what_files known v (shape_files known inside))) (shape_files known rest)
      ∙ ap (λ (o : Option Entry). or o (look (c ∷ q) (shape_files known rest)))
      (look_beside c d q (what_files known v (shape_files known inside)) (not_bytes c d h.0.names))
      ∙ none_after c w rest h.1 q

module _ (os : List Object) where
  -- at a path the entry of its first component decides
  pub look_shape : (s : Shape) → IsShape os s → (x : List ℕ) (q : Path)
      → look (x ∷ q) (shape_files (stored_files os) s) ≡ look_child (stored_files os) (child s x) q
  look_shape none h x q = refl
  look_shape (row c w inside rest) h x q =
      look_append (x ∷ q) (moved (c ∷ []) (what_files (stored_files os) w (shape_files (stored_files os) inside)))
      (shape_files (stored_files os) rest)
      ∙ by_cases (bytes_eq c x)
      (λ yea.
      let is = is_bytes c x yea in
      subst (λ (z : List ℕ). or (look (z ∷ q) (moved (c ∷ []) (what_files (stored_files os) w (shape_files (stored_files os) inside))))
      (look (z ∷ q) (shape_files (stored_files os) rest)) ≡ look_child (stored_files os) (child (row c w inside rest) z) q) is
      (let here = (bytes_eq-Decides c c).1 refl in
      ap (λ (o : Option Entry). or o (look (c ∷ q) (shape_files (stored_files os) rest)))
      (look_here c q (what_files (stored_files os) w (shape_files (stored_files os) inside)))
      ∙ ap (or (look q (what_files (stored_files os) w (shape_files (stored_files os) inside))))
      (none_after (stored_files os) c w rest h.1 q)
      ∙ nothing_later (look q (what_files (stored_files os) w (shape_files (stored_files os) inside)))
      ∙ ap (λ (b : Bool). look_child (stored_files os) (cond b (Some (record { what = w; inside = inside })) (child rest c)) q) (sym here)))
      (λ nay.
      ap (λ (o : Option Entry). or o (look (x ∷ q) (shape_files (stored_files os) rest)))
      (look_beside x c q (what_files (stored_files os) w (shape_files (stored_files os) inside)) (turn_bytes c x nay))
      ∙ look_shape rest h.3 x q
      ∙ ap (λ (b : Bool). look_child (stored_files os) (cond b (Some (record { what = w; inside = inside })) (child rest x)) q) (sym nay))

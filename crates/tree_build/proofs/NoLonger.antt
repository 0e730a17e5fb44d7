-- Files that are moved to a path that is no longer: no path gets too long.
use Rattle.std.proofs.Common.{◌≡◌, ◌≢◌, ℕ, ◌≤◌, Bool, true, false, ◌&&◌, List, [], ◌∷◌, ◌++◌, length, refl, ap, arith}
use Rattle.std.specs.Prelude.{None, nat_le}
use Rattle.std.specs.List.{AllByRecursion, list_any, list_all}
use Rattle.std.proofs.lemmas.Bool.{le-leb}
use Rattle.std.proofs.lemmas.List.{length-append, append-nil}
use Rattle.git_model.specs.Repository.{Object}
use Rattle.git_paths.specs.Paths.{joined, IsWithinLimits, is_within_limits}
use Rattle.file_maps.specs.FileMap.{Path, Listed, FileMap, IsFile, AreFiles, listed}
use Rattle.file_maps.specs.Edits.{cut, files_at, moved, is_root}
use Rattle.file_maps.specs.StoredFiles.{stored_files}
use Rattle.file_maps.proofs.Apart.{cut-all}
use Rattle.tree_build.specs.Shape.{What, file, unopened, opened, Shape, none, row, Held, what_files, shape_files, held_files}
use Rattle.tree_build.specs.Branch.{IsShape, IsHeld}
use Rattle.tree_build.specs.Moving.{IsNoLonger, has_entries, has_entries_by, path_fault}
use Rattle.tree_build.proofs.FitsBelow.{joined-below}

both : (a b : Bool) → a ≡ true → b ≡ true → (a && b) ≡ true
both a b p q = rw (p, q) refl

within : (p : Path) → length (joined p) ≤ 16383 → length p ≤ 256 → is_within_limits p ≡ true
within p a b = both (nat_le (length (joined p)) 16383) (nat_le (length p) 256) (le-leb (length (joined p)) 16383 a) (le-leb (length p) 256 b)

no_longer : (to from : Path) → IsNoLonger to from → (q : Path) → IsWithinLimits (from ++ q)
    → is_within_limits (to ++ q) ≡ true
no_longer [] from h q l = absurd (h.to_some refl)
no_longer (c ∷ to) [] h q l = absurd (h.from_some refl)
no_longer (c ∷ to) (x ∷ from) h [] l =
    let a = ap (λ (p : Path). length (joined p)) (append-nil (c ∷ to)) in
    let b = ap (λ (p : Path). length (joined p)) (append-nil (x ∷ from)) in
    let k = length-append (c ∷ to) [] in
    let n = length-append (x ∷ from) [] in
    let bytes = l.bytes in let components = l.components in
    let less = h.bytes in let fewer = h.components in
    within ((c ∷ to) ++ []) (omega arith) (omega arith)
no_longer (c ∷ to) (x ∷ from) h (d ∷ q) l =
    let a = joined-below (c ∷ to) d q in
    let b = joined-below (x ∷ from) d q in
    let k = length-append (c ∷ to) (d ∷ q) in
    let n = length-append (x ∷ from) (d ∷ q) in
    let bytes = l.bytes in let components = l.components in
    let less = h.bytes in let fewer = h.components in
    within ((c ∷ to) ++ d ∷ q) (omega arith) (omega arith)

all_within : (to from : Path) → IsNoLonger to from → (fs : Listed)
    → AllByRecursion (λ g. IsFile (from ++ g.0, g.1)) fs
    → list_all (λ f. is_within_limits f.0) (moved to fs) ≡ true
all_within to from h [] files = refl
all_within to from h (f ∷ fs) files =
    both (is_within_limits (to ++ f.0)) (list_all (λ f. is_within_limits f.0) (moved to fs))
    (no_longer to from h f.0 files.0.limits) (all_within to from h fs files.1)

rootless : (c : List ℕ) (to : Path) (fs : Listed) → list_any (λ f. is_root f.0) (moved (c ∷ to) fs) ≡ false
rootless c to [] = refl
rootless c to (f ∷ fs) = rootless c to fs

clean : (to from : Path) → IsNoLonger to from → (fs : Listed) → fs ≢ []
    → AllByRecursion (λ g. IsFile (from ++ g.0, g.1)) fs → path_fault (moved to fs) ≡ None
clean [] from h fs some files = absurd (h.to_some refl)
clean (c ∷ to) from h [] some files = absurd (some refl)
clean (c ∷ to) from h (f ∷ fs) some files =
    rw (rootless c to (f ∷ fs), all_within (c ∷ to) from h (f ∷ fs) files) refl

-- a directory with entries has files
pub entries_have_files : (os : List Object) (h : Held) → IsHeld os h → has_entries h ≡ true
    → held_files (stored_files os) h ≢ []
entries_have_files os h sound is = by h.what is
  where
    lost : (c : List ℕ) (xs ys : Listed) → xs ≢ [] → moved (c ∷ []) xs ++ ys ≡ [] → ⊥
    lost c [] ys ne z = ne refl
    lost c (x ∷ xs) ys ne z = cc z

    rows : (s : Shape) → IsShape os s → has_entries_by (opened None) s ≡ true
        → shape_files (stored_files os) s ≢ []
    rows none k e = cc e
    rows (row c w inside rest) k e = λ z.
        lost c (what_files (stored_files os) w (shape_files (stored_files os) inside))
        (shape_files (stored_files os) rest) k.0.some z

    by : (w : What) → has_entries_by w h.inside ≡ true
        → what_files (stored_files os) w (shape_files (stored_files os) h.inside) ≢ []
    by (file e) t = cc t
    by (unopened id) t = cc t
    by (opened tree) t = rows h.inside sound.1 t

pub clean_no_longer : (m : FileMap) → AreFiles (listed m) → (to from : Path) → IsNoLonger to from
    → files_at m from ≢ [] → path_fault (moved to (files_at m from)) ≡ None
clean_no_longer m files to from h some =
    clean to from h (cut from (listed m)) some (cut-all IsFile from (listed m) files.each)

-- What stands below a path of an opened directory is what stands in the part of its first entry.
use Rattle.std.proofs.Common.{◌≡◌, ◌≢◌, ℕ, zero, suc, ◌<◌, Bool, true, cond, List, [], ◌∷◌, length, get_or, Option, Some, None, refl, sym, ap, ◌∙◌, arith}
use Rattle.std.specs.List.{AllByRecursion, position}
use Rattle.std.specs.Str.{bytes_eq}
use Rattle.std.proofs.lemmas.List.Quantifiers.{position-Some}
use Rattle.std.proofs.lemmas.Slice.Eq.{bytes_eq-Decides}
use Rattle.git_paths.proofs.Cases.{by_cases}
use Rattle.git_model.specs.Repository.{Object}
use Rattle.file_maps.specs.declared.entry.Entry.{Entry}
use Rattle.file_maps.specs.FileMap.{Path, Listed, FileMap, listed}
use Rattle.file_maps.specs.Edits.{cut}
use Rattle.file_maps.specs.Trees.{Groups, file_of, directory, entry_or, entry_at}
use Rattle.file_maps.specs.StoredFiles.{stored_files}
use Rattle.file_maps.proofs.ListedOrder.{cut-root}
use Rattle.tree_build.specs.declared.dir.Node.{Node}
use Rattle.tree_build.specs.Shape.{What, file, unopened, opened, Shape, none, row, Held, Known, what_files, shape_files, held_files}
use Rattle.tree_build.specs.Branch.{IsDirectory, IsWhat, IsShape, IsHeld}
use Rattle.tree_build.specs.Editing.{child}
use Rattle.tree_build.specs.Nodes.{has_name, held, shape_of}
use Rattle.tree_build.specs.Parts.{part_of, AreParts}
use Rattle.tree_build.specs.Standing.{stands_at}
use Rattle.tree_build.specs.Stores.{parts_of}
use Rattle.tree_build.proofs.Held.{spread-parts, are-parts}
use Rattle.tree_build.proofs.Look.{not_bytes, turn_bytes}
use Rattle.tree_build.proofs.Named.{name_lacks}
use Rattle.tree_build.proofs.Places.{Entries, part-at, parts-length}
use Rattle.tree_build.proofs.Inside.{no-root}
use Rattle.tree_build.proofs.Rows.{no_file}
use Rattle.tree_build.proofs.Spread.{cut-spread}
use Rattle.tree_build.proofs.StoredParts.{stands-part}

part-none : (k : Known) (s : Shape) (c : List ℕ) → child s c ≡ None → part_of c (parts_of k s) ≡ []
part-none k none c is = refl
part-none k (row d w inside rest) c is =
    by_cases (bytes_eq d c)
    (λ yea. let no : Some (record { what = w; inside = inside }) ≡ None =
    ap (λ (b : Bool). cond b (Some (record { what = w; inside = inside })) (child rest c)) (sym yea) ∙ is in cc no)
    (λ nay.
    let other = turn_bytes d c nay in
    rw other (part-none k rest c
    (ap (λ (b : Bool). cond b (Some (record { what = w; inside = inside })) (child rest c)) (sym nay) ∙ is)))

other-at : (c : List ℕ) (parts : Groups) (i : ℕ) → AllByRecursion (λ h. c ≢ h.0) parts → i < length parts
    → c ≢ (get_or parts i ([], [])).0
other-at c [] i h lt = absurd (omega arith)
other-at c (g ∷ parts) zero h lt = h.0
other-at c (g ∷ parts) (suc i) h lt = other-at c parts i h.1 (omega arith)

part-here : (c : List ℕ) (parts : Groups) (i : ℕ) → AreParts parts → i < length parts
    → bytes_eq (get_or parts i ([], [])).0 c ≡ true → part_of c parts ≡ (get_or parts i ([], [])).1
part-here c [] i are lt is = absurd (omega arith)
part-here c (g ∷ parts) zero are lt is =
    rw ((bytes_eq-Decides c g.0).1 (sym ((bytes_eq-Decides g.0 c).0 is))) refl
part-here c (g ∷ parts) (suc i) are lt is =
    let same : (get_or parts i ([], [])).0 ≡ c = (bytes_eq-Decides (get_or parts i ([], [])).0 c).0 is in
    let other = other-at g.0 parts i are.1 (omega arith) in
    rw (not_bytes c g.0 (λ e. other (sym e ∙ sym same))) (part-here c parts i are.2 (omega arith) is)

module _ (digest : List ℕ → List ℕ) (os : List Object) (es : Entries) (sound : IsShape os (shape_of es)) (c : List ℕ) (rest : Path) where
  abbrev k : Known
  k = stored_files os

  below : stands_at digest (shape_files k (shape_of es)) (c ∷ rest) ≡ stands_at digest (part_of c (parts_of k (shape_of es))) rest
  below =
      ap (λ (l : Listed). stands_at digest l (c ∷ rest)) (spread-parts k (shape_of es))
      ∙ stands-part digest (parts_of k (shape_of es)) (are-parts os (shape_of es) sound) c rest

  pub nothing-there : position (has_name c) es ≡ None → ◌≡◌ {A = Option Entry} None (stands_at digest (shape_files k (shape_of es)) (c ∷ rest))
  nothing-there is =
      sym (below
      ∙ ap (λ (l : Listed). stands_at digest l rest)
      (part-none k (shape_of es) c (name_lacks c es is).0))

  pub held-there : (i : ℕ) (x : List ℕ × Node) → position (has_name c) es ≡ Some i → x ≡ get_or es i x
      → stands_at digest (held_files k (held x.1)) rest ≡ stands_at digest (shape_files k (shape_of es)) (c ∷ rest)
  held-there i x is at =
      let found = position-Some (has_name c) es i x is in
      let part = part-at k es i x ([], []) found.0 at in
      let many = parts-length k es in
      let name : bytes_eq (get_or (parts_of k (shape_of es)) i ([], [])).0 c ≡ true =
      ap (λ (g : List ℕ × Listed). bytes_eq g.0 c) part
      ∙ ap (λ (y : List ℕ × Node). bytes_eq y.0 c) at ∙ found.1 in
      sym (below
      ∙ ap (λ (l : Listed). stands_at digest l rest)
      (part-here c (parts_of k (shape_of es)) i (are-parts os (shape_of es) sound) (omega arith) name
      ∙ ap (λ (g : List ℕ × Listed). g.1) part))

-- the files below a path of an opened directory
module _ (os : List Object) (es : Entries) (sound : IsShape os (shape_of es)) (c : List ℕ) (rest : Path) where
  cut-part : cut (c ∷ rest) (shape_files (stored_files os) (shape_of es)) ≡ cut rest (part_of c (parts_of (stored_files os) (shape_of es)))
  cut-part =
      ap (cut (c ∷ rest)) (spread-parts (stored_files os) (shape_of es))
      ∙ cut-spread c rest (parts_of (stored_files os) (shape_of es)) (are-parts os (shape_of es) sound)

  pub cut-nothing : position (has_name c) es ≡ None → cut (c ∷ rest) (shape_files (stored_files os) (shape_of es)) ≡ []
  cut-nothing is =
      cut-part
      ∙ ap (cut rest) (part-none (stored_files os) (shape_of es) c (name_lacks c es is).0)

  pub cut-there : (i : ℕ) (x : List ℕ × Node) → position (has_name c) es ≡ Some i → x ≡ get_or es i x
      → cut (c ∷ rest) (shape_files (stored_files os) (shape_of es)) ≡ cut rest (held_files (stored_files os) (held x.1))
  cut-there i x is at =
      let found = position-Some (has_name c) es i x is in
      let part = part-at (stored_files os) es i x ([], []) found.0 at in
      let many = parts-length (stored_files os) es in
      let name : bytes_eq (get_or (parts_of (stored_files os) (shape_of es)) i ([], [])).0 c ≡ true =
      ap (λ (g : List ℕ × Listed). bytes_eq g.0 c) part
      ∙ ap (λ (y : List ℕ × Node). bytes_eq y.0 c) at ∙ found.1 in
      cut-part
      ∙ ap (cut rest)
      (part-here c (parts_of (stored_files os) (shape_of es)) i (are-parts os (shape_of es) sound) (omega arith) name
      ∙ ap (λ (g : List ℕ × Listed). g.1) part)

-- ---- in a branch

module _ (digest : List ℕ → List ℕ) (m : FileMap) (fs : Listed) (is : listed m ≡ fs) where
  entry-below : (c : List ℕ) (rest : Path) → stands_at digest fs (c ∷ rest) ≡ entry_at digest m (c ∷ rest)
  entry-below c rest = ap (λ (l : Listed). stands_at digest l (c ∷ rest)) (sym is)

  -- the root is a directory without files too
  pub entry-root : file_of fs ≡ None → Some (directory digest fs) ≡ entry_at digest m []
  entry-root none_there =
      by fs none_there
      ∙ ap (λ (l : Listed). entry_or digest true l (file_of l)) (sym (cut-root fs))
      ∙ ap (λ (l : Listed). entry_or digest true (cut [] l) (file_of (cut [] l))) (sym is)
    where
      by : (l : Listed) → file_of l ≡ None → Some (directory digest l) ≡ entry_or digest true l (file_of l)
      by [] h = refl
      by (f ∷ l) h = ap (λ (o : Option Entry). entry_or digest true (f ∷ l) o) (sym h)

  pub entry-path : (path : Path) → (path ≡ [] → ⊥) → stands_at digest fs path ≡ entry_at digest m path
  entry-path [] ne = absurd (ne refl)
  entry-path (c ∷ rest) ne = entry-below c rest

-- no file stands at the root
pub root-file : (os : List Object) (h : Held) → IsDirectory h.what → IsHeld os h
    → file_of (held_files (stored_files os) h) ≡ None
root-file os h dir sound = by h.what dir sound.0
  where
    by : (w : What) → IsDirectory w → IsWhat os w (shape_files (stored_files os) h.inside)
        → file_of (what_files (stored_files os) w (shape_files (stored_files os) h.inside)) ≡ None
    by (file e) d s = absurd d
    by (unopened id) d s = no_file os id (stored_files os id) s
    by (opened tree) d s = no-root (stored_files os) h.inside

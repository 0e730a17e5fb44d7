-- Entries of a directory by their places.
use Rattle.std.proofs.Common.{◌≡◌, ℕ, zero, suc, ◌+◌, ◌<◌, ◌≤◌, List, [], ◌∷◌, ◌++◌, length, take, get_or, set, None, refl, sym, ap, ◌∙◌, subst, arith}
use Rattle.std.specs.List.{AllByRecursion}
use Rattle.std.specs.Ordering.{nat_cmp}
use Rattle.std.specs.Cmp.Lexicographic.{slice_cmp}
use Rattle.std.specs.declared.cmp.Ordering.TheVariants.{Less}
use Rattle.std.proofs.lemmas.List.{take_more, take_more_set}
use Rattle.git_model.specs.Repository.{Object}
use Rattle.git_model.specs.Tree.{TreeEntry}
use Rattle.file_maps.specs.FileMap.{Listed}
use Rattle.file_maps.specs.Trees.{file_of}
use Rattle.file_maps.specs.Storable.{AreStorable}
use Rattle.file_maps.specs.StoredFiles.{stored_files}
use Rattle.tree_build.specs.declared.dir.Node.{Node}
use Rattle.tree_build.specs.Shape.{What, file, unopened, opened, Shape, none, row, Held, Known, shape_files, held_files}
use Rattle.tree_build.specs.Branch.{slash_after, key_of, IsNodeBefore, IsRow, IsBeforeAll, IsShape, IsHeld}
use Rattle.tree_build.specs.ShapeCode.{shape_size}
use Rattle.tree_build.specs.Nodes.{held, shape_of}
use Rattle.tree_build.specs.Stores.{unnamed, bare, bare_held, parts_of, entry_of_what, entries_of_shape, IsNamed, AreNamed}
use Rattle.tree_build.proofs.Held.{same-held, spread-parts, are-parts, storable-parts}

abbrev pub Entries : Type 0
Entries = List (List ℕ × Node)

pub rows-append : (xs ys : Entries)
    → entries_of_shape (shape_of (xs ++ ys)) ≡ entries_of_shape (shape_of xs) ++ entries_of_shape (shape_of ys)
rows-append [] ys = refl
rows-append (x ∷ xs) ys =
    ap (λ (l : List TreeEntry). entry_of_what x.0 (held x.1).what ∷ l) (rows-append xs ys)

-- one entry more
pub rows-more : (es : Entries) (i : ℕ) (x : List ℕ × Node) → i < length es → x ≡ get_or es i x
    → entries_of_shape (shape_of (take (i + 1) es)) ≡ entries_of_shape (shape_of (take i es)) ++ entry_of_what x.0 (held x.1).what ∷ []
rows-more es i x lt at =
    ap (λ (l : Entries). entries_of_shape (shape_of l))
    (take_more es i x lt ∙ ap (λ (y : List ℕ × Node). take i es ++ y ∷ []) (sym at))
    ∙ rows-append (take i es) (x ∷ [])

pub named-at : (es : Entries) (i : ℕ) (x : List ℕ × Node) → i < length es → x ≡ get_or es i x
    → AreNamed (shape_of es) → IsNamed (held x.1).what
named-at [] i x lt at h = absurd (omega arith)
named-at (e ∷ es) zero x lt at h = subst (λ (y : List ℕ × Node). IsNamed (held y.1).what) (sym at) h.0
named-at (e ∷ es) (suc i) x lt at h = named-at es i x (omega arith) at h.1

pub sound-at : (os : List Object) (es : Entries) (i : ℕ) (x : List ℕ × Node) → i < length es
    → x ≡ get_or es i x → IsShape os (shape_of es) → IsHeld os (held x.1)
sound-at os [] i x lt at h = absurd (omega arith)
sound-at os (e ∷ es) zero x lt at h =
    subst (λ (y : List ℕ × Node). IsHeld os (held y.1)) (sym at) (h.0.sound, h.2)
sound-at os (e ∷ es) (suc i) x lt at h = sound-at os es i x (omega arith) at h.3

pub part-at : (k : Known) (es : Entries) (i : ℕ) (x : List ℕ × Node) (d : List ℕ × Listed)
    → i < length es → x ≡ get_or es i x
    → get_or (parts_of k (shape_of es)) i d ≡ (x.0, held_files k (held x.1))
part-at k [] i x d lt at = absurd (omega arith)
part-at k (e ∷ es) zero x d lt at = ap (λ (y : List ℕ × Node). (y.0, held_files k (held y.1))) (sym at)
part-at k (e ∷ es) (suc i) x d lt at = part-at k es i x d (omega arith) at

pub parts-length : (k : Known) (es : Entries) → length (parts_of k (shape_of es)) ≡ length es
parts-length k [] = refl
parts-length k (e ∷ es) = ap suc (parts-length k es)

-- ---- one entry changed

slash-same : (v w : What) → unnamed v ≡ unnamed w → slash_after v ≡ slash_after w
slash-same v w is = sym (own v) ∙ ap slash_after is ∙ own w
  where
    own : (w : What) → slash_after (unnamed w) ≡ slash_after w
    own (file e) = refl
    own (unopened id) = refl
    own (opened tree) = refl

stands-same : (c : List ℕ) (v : What) (d : List ℕ) (x y : What) → unnamed x ≡ unnamed y
    → IsNodeBefore c v d y → IsNodeBefore c v d x
stands-same c v d x y is h = record {
  names = h.names;
  order = subst (λ (s : List ℕ). slice_cmp nat_cmp (key_of c v) (d ++ s) ≡ Less) (sym (slash-same x y is)) h.order;
}

before-same : (c : List ℕ) (v w : What) (s : Shape) → unnamed v ≡ unnamed w → IsBeforeAll c w s → IsBeforeAll c v s
before-same c v w none is h = tt
before-same c v w (row d x inside rest) is h = (
  record {
    names = h.0.names;
    order = subst (λ (s : List ℕ). slice_cmp nat_cmp (c ++ s) (key_of d x) ≡ Less) (sym (slash-same v w is)) h.0.order;
  },
  before-same c v w rest is h.1,
)

pub same-set : (es : Entries) (i : ℕ) (x : List ℕ × Node) (y : Node) → i < length es → x ≡ get_or es i x
    → bare_held (held y) ≡ bare_held (held x.1)
    → bare (shape_of (set es i (x.0, y))) ≡ bare (shape_of es)
same-set [] i x y lt at is = absurd (omega arith)
same-set (e ∷ es) zero x y lt at is =
    let here = is ∙ ap (λ (z : List ℕ × Node). bare_held (held z.1)) at in
    let name = ap (λ (z : List ℕ × Node). z.0) at in
    λ j. row (name j) (here j).what (here j).inside (bare (shape_of es))
same-set (e ∷ es) (suc i) x y lt at is =
    ap (λ (s : Shape). row e.0 (unnamed (held e.1).what) (bare (held e.1).inside) s)
    (same-set es i x y (omega arith) at is)

before-set : (c : List ℕ) (w : What) (es : Entries) (i : ℕ) (x : List ℕ × Node) (y : Node) → i < length es
    → x ≡ get_or es i x → bare_held (held y) ≡ bare_held (held x.1)
    → IsBeforeAll c w (shape_of es) → IsBeforeAll c w (shape_of (set es i (x.0, y)))
before-set c w [] i x y lt at is h = absurd (omega arith)
before-set c w (e ∷ es) zero x y lt at is h = (
  stands-same c w x.0 (held y).what (held x.1).what (ap (λ (z : Held). z.what) is)
      (subst (λ (z : List ℕ × Node). IsNodeBefore c w z.0 (held z.1).what) (sym at) h.0),
  h.1,
)
before-set c w (e ∷ es) (suc i) x y lt at is h =
    (h.0, before-set c w es i x y (omega arith) at is h.1)

pub sound-set : (os : List Object) (es : Entries) (i : ℕ) (x : List ℕ × Node) (y : Node) → i < length es
    → x ≡ get_or es i x → bare_held (held y) ≡ bare_held (held x.1)
    → IsShape os (shape_of es) → IsHeld os (held y) → IsShape os (shape_of (set es i (x.0, y)))
sound-set os [] i x y lt at is h sound = absurd (omega arith)
sound-set os (e ∷ es) zero x y lt at is h sound =
    let first = subst (λ (z : List ℕ × Node). IsRow os z.0 (held z.1).what (shape_files (stored_files os) (held z.1).inside)) (sym at) h.0 in
    let before = subst (λ (z : List ℕ × Node). IsBeforeAll z.0 (held z.1).what (shape_of es)) (sym at) h.1 in (
      record {
        name = first.name;
        sound = sound.0;
        some = λ no. first.some (sym (same-held (stored_files os) (held y) (held x.1) is) ∙ no);
      },
      before-same x.0 (held y).what (held x.1).what (shape_of es) (ap (λ (z : Held). z.what) is) before,
      sound.1,
      h.3,
    )
sound-set os (e ∷ es) (suc i) x y lt at is h sound =
    (h.0, before-set e.0 (held e.1).what es i x y (omega arith) at is h.1, h.2, sound-set os es i x y (omega arith) at is h.3 sound)

named-append : (xs ys : Entries) → AreNamed (shape_of xs) → AreNamed (shape_of ys) → AreNamed (shape_of (xs ++ ys))
named-append [] ys h k = k
named-append (x ∷ xs) ys h k = (h.0, named-append xs ys h.1 k)

pub named-set : (es : Entries) (i : ℕ) (c : List ℕ) (y : Node) → i < length es
    → IsNamed (held y).what → AreNamed (shape_of (take i es)) → AreNamed (shape_of (take (i + 1) (set es i (c, y))))
named-set es i c y lt one h =
    subst (λ (l : Entries). AreNamed (shape_of l)) (sym (take_more_set es i (c, y) lt))
    (named-append (take i es) ((c, y) ∷ []) h (one, tt))

-- ---- sizes

pub size-at : (es : Entries) (i : ℕ) (x : List ℕ × Node) → i < length es → x ≡ get_or es i x
    → suc (shape_size (held x.1).inside) ≤ shape_size (shape_of es)
size-at [] i x lt at = absurd (omega arith)
size-at (e ∷ es) zero x lt at =
    let same = ap (λ (z : List ℕ × Node). shape_size (held z.1).inside) at in omega arith
size-at (e ∷ es) (suc i) x lt at = let rest = size-at es i x (omega arith) at in omega arith

size-bare : (s : Shape) → shape_size (bare s) ≡ shape_size s
size-bare none = refl
size-bare (row c w inside rest) =
    let one = size-bare inside in let more = size-bare rest in omega arith

pub same-size : (s t : Shape) → bare s ≡ bare t → shape_size s ≡ shape_size t
same-size s t is = sym (size-bare s) ∙ ap shape_size is ∙ size-bare t

abbrev rows_in : Shape → ℕ
rows_in none = 0
rows_in (row c w inside rest) = suc (rows_in rest)

rows-bare : (s : Shape) → rows_in (bare s) ≡ rows_in s
rows-bare none = refl
rows-bare (row c w inside rest) = ap suc (rows-bare rest)

rows-length : (es : Entries) → rows_in (shape_of es) ≡ length es
rows-length [] = refl
rows-length (e ∷ es) = ap suc (rows-length es)

pub same-length : (es fs : Entries) → bare (shape_of es) ≡ bare (shape_of fs) → length es ≡ length fs
same-length es fs is =
    sym (rows-length es) ∙ sym (rows-bare (shape_of es)) ∙ ap rows_in is ∙ rows-bare (shape_of fs) ∙ rows-length fs

-- ---- files whose trees can be stored

all-at : {A : Type 0} (P : A → Type 0) (xs : List A) (i : ℕ) (d : A) → i < length xs → AllByRecursion P xs
    → P (get_or xs i d)
all-at P [] i d lt h = absurd (omega arith)
all-at P (x ∷ xs) zero d lt h = h.0
all-at P (x ∷ xs) (suc i) d lt h = all-at P xs i d (omega arith) h.1

pub storable-at : (os : List Object) (es : Entries) (i : ℕ) (x : List ℕ × Node) → i < length es → x ≡ get_or es i x
    → IsShape os (shape_of es) → AreStorable (shape_files (stored_files os) (shape_of es))
    → file_of (held_files (stored_files os) (held x.1)) ≡ None
    → AreStorable (held_files (stored_files os) (held x.1))
storable-at os es i x lt at sound storable =
    let k = stored_files os in
    let size = parts-length k es in
    let all = storable-parts (parts_of k (shape_of es)) (are-parts os (shape_of es) sound)
    (subst AreStorable (spread-parts k (shape_of es)) storable) in
    subst (λ (g : List ℕ × Listed). file_of g.1 ≡ None → AreStorable g.1) (part-at k es i x ([], []) lt at)
    (all-at (λ g. file_of g.1 ≡ None → AreStorable g.1) (parts_of k (shape_of es)) i ([], []) (omega arith) all)

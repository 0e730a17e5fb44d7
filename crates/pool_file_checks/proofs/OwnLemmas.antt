-- A tenant's objects under their names.
use Rattle.std.proofs.Common.{◌≡◌, ℕ, zero, suc, ◌<◌, Bool, true, false, cond, List, [], ◌∷◌, ◌++◌, length, take, drop, get_or, Option, None, Some, is_some, Ok, Err, refl, sym, ap, subst, ◌∙◌, arith, take-suc, take_all, drop-cons}
use Rattle.std.specs.Prelude.{◌≤◌, IsSome, slice_index_or}
use Rattle.std.specs.List.{AllByRecursion, IsDistinct}
use Rattle.std.specs.Map.{keys_of, lookup}
use Rattle.std.specs.Str.{bytes_eq}
use Rattle.std.proofs.lemmas.Slice.Eq.{bytes_eq-Decides}
use Rattle.std.proofs.lemmas.List.{get_or-map, map-append, take-append-drop}
use Rattle.git_model.specs.declared.kind.Kind.TheVariants as kind
use Rattle.git_model.specs.ObjectName.{object_name}
use Rattle.git_model.specs.Content.{content_from, name_by}
use Rattle.pool_file_format.specs.declared.raw.RawObject.{RawObject as Read}
use Rattle.pool_file_format.specs.declared.fault.Fault.{Fault}
use Rattle.pool_file_format.specs.declared.fault.Fault.TheVariants as fault
use Rattle.pool_file_format.specs.Format.{RawObject}
use Rattle.pool_file_format.specs.Shown.{object_of, objects_of}
use Rattle.pool_file_checks.specs.Own.{kind_of, content_of, content_at, names_of, Rows, row, rows_of, AreDistinct}
use Rattle.pool_file_checks.specs.Indexing.{AddsRow, Indexes, IsIndexed}

-- ---- contents by number

pub content_within : (xs : List Read) (n : ℕ) (d : Read) → n < length xs
    → content_of (object_of (get_or xs n d)) ≡ content_at (objects_of xs) n
unfolding content_at
content_within xs n d lt = ap content_of (sym (get_or-map object_of xs n d _ lt))

pub content_past : (xs : List Read) (n : ℕ) → length xs ≤ n
    → content_from kind.Blob [] ≡ content_at (objects_of xs) n
unfolding content_at
content_past [] n le = refl
content_past (x ∷ xs) zero le = absurd (omega (arith, le))
content_past (x ∷ xs) (suc n) le = content_past xs n (omega (arith, le))

-- ---- names in turn

abbrev id_of : (List ℕ → List ℕ) → RawObject → List ℕ
id_of digest o = name_by digest (content_of o)

pub named_on : (digest : List ℕ → List ℕ) (os : List Read) (i j : ℕ) (o : Read) (ids : List (List ℕ)) (id : List ℕ)
    → j ≡ suc i → i < length os → o ≡ get_or os i o
    → ids ≡ names_of digest (objects_of (take i os)) → id ≡ object_name digest (kind_of o.kind) o.bytes
    → ids ++ id ∷ [] ≡ names_of digest (objects_of (take j os))
named_on digest os i j o ids id next lt at before named =
    let all : names_of digest (objects_of (take (suc i) os)) ≡ names_of digest (objects_of (take i os)) ++ id_of digest (object_of (get_or os i o)) ∷ [] =
    ap (λ (xs : List Read). names_of digest (objects_of xs)) (take-suc os i o lt)
    ∙ ap (λ (xs : List RawObject). names_of digest xs) (map-append object_of (take i os) (get_or os i o ∷ []))
    ∙ map-append (id_of digest) (objects_of (take i os)) (object_of (get_or os i o) ∷ []) in
    ap (λ (xs : List (List ℕ)). xs ++ id ∷ []) before
    ∙ ap (λ (x : List ℕ). names_of digest (objects_of (take i os)) ++ x ∷ []) (named ∙ ap (λ (x : Read). id_of digest (object_of x)) at)
    ∙ sym all ∙ ap (λ (k : ℕ). names_of digest (objects_of (take k os))) (sym next)

-- ---- one name more

pub none_of : {X : Type 0} (o : Option X) → is_some o ≡ false → o ≡ None
none_of None e = refl
none_of (Some x) e = cc

among : (P : List ℕ → Type 0) (xs : Rows) (id : List ℕ) (n : ℕ) (ys : Rows)
    → AllByRecursion P (keys_of (xs ++ (id, n) ∷ ys)) → P id
among P [] id n ys h = h.0
among P (x ∷ xs) id n ys h = among P xs id n ys h.1

-- a name that is there stands twice
pub twice : (xs : Rows) (id : List ℕ) (n : ℕ) (ys : Rows) → IsSome (lookup (bytes_eq id) xs)
    → AreDistinct (xs ++ (id, n) ∷ ys) → ⊥
unfolding IsDistinct
twice [] id n ys there d = cc
twice (x ∷ xs) id n ys there d = by (λ some. twice xs id n ys some d.1) (bytes_eq id x.0) refl there
  where
    by : (IsSome (lookup (bytes_eq id) xs) → ⊥) → (b : Bool) → bytes_eq id x.0 ≡ b → IsSome (cond b (Some x.1) (lookup (bytes_eq id) xs)) → ⊥
    by rest true same some =
        let is : id ≡ x.0 = (bytes_eq-Decides id x.0).0 same in
        let not_it : bytes_eq x.0 id ≡ false = among (λ y. bytes_eq x.0 y ≡ false) xs id n ys d.0 in
        let it : bytes_eq x.0 id ≡ true = (bytes_eq-Decides x.0 id).1 (sym is) in
        cc
    by rest false other some = rest some

-- ---- rows in turn

-- The rows of the first numbers stand in the index, under distinct names.
abbrev pub Built : List (List ℕ) → List ℕ → ℕ → Rows → Type 0
Built names numbers i rows = (rows ≡ rows_of names (take i numbers)) × AreDistinct rows

pub none_indexed : (names : List (List ℕ)) (numbers : List ℕ) (rows : Rows) → rows ≡ [] → IsIndexed names numbers rows
unfolding IsDistinct
none_indexed names numbers rows none = subst (λ (rs : Rows). IsIndexed names numbers rs) (sym none) (refl, tt)

pub built_on : (names : List (List ℕ)) (numbers : List ℕ) (i j : ℕ) (old new : Rows) → j ≡ suc i → i < length numbers
    → Built names numbers i old
    → AddsRow old (slice_index_or names (get_or numbers i 0) []) (get_or numbers i 0) (Ok tt) new
    → Built names numbers j new
built_on names numbers i j old new next lt b a = subst (λ (k : ℕ). Built names numbers k new) (sym next) (
  a.0 ∙ ap (λ (rs : Rows). rs ++ row names (get_or numbers i 0) ∷ []) b.0
      ∙ sym (map-append (row names) (take i numbers) (get_or numbers i 0 ∷ []))
      ∙ sym (ap (λ (ns : List ℕ). rows_of names ns) (take-suc numbers i 0 lt)),
  a.1,
)

all_rows : (names : List (List ℕ)) (numbers : List ℕ) (i : ℕ) → i < length numbers
    → rows_of names numbers ≡ rows_of names (take i numbers) ++ row names (get_or numbers i 0) ∷ rows_of names (drop (suc i) numbers)
all_rows names numbers i lt =
    ap (λ (ns : List ℕ). rows_of names ns) (sym (take-append-drop i numbers))
    ∙ map-append (row names) (take i numbers) (drop i numbers)
    ∙ ap (λ (ns : List ℕ). rows_of names (take i numbers) ++ rows_of names ns) (drop-cons numbers i 0 lt)

pub built_fails : (names : List (List ℕ)) (numbers : List ℕ) (i : ℕ) (old new : Rows) (e : Fault) → i < length numbers
    → Built names numbers i old
    → AddsRow old (slice_index_or names (get_or numbers i 0) []) (get_or numbers i 0) (Err e) new
    → Indexes (rows_of names numbers) (Err e)
built_fails names numbers i old new (fault.Refused r) lt b a = (
  λ d. twice old (slice_index_or names (get_or numbers i 0) []) (get_or numbers i 0) (rows_of names (drop (suc i) numbers)) a.0
      (subst AreDistinct (all_rows names numbers i lt ∙ ap (λ (rs : Rows). rs ++ row names (get_or numbers i 0) ∷ rows_of names (drop (suc i) numbers)) (sym b.0)) d),
  a.1,
)
built_fails names numbers i old new fault.Memory lt b a = tt
built_fails names numbers i old new fault.Device lt b a = absurd a

pub built_done : (names : List (List ℕ)) (numbers : List ℕ) (i : ℕ) (rows : Rows) → length numbers ≤ i
    → Built names numbers i rows → Indexes (rows_of names numbers) (Ok rows)
built_done names numbers i rows le b =
    let all : rows ≡ rows_of names numbers = b.0 ∙ ap (λ (ns : List ℕ). rows_of names ns) (take_all i numbers le) in
    (all, subst AreDistinct all b.1)

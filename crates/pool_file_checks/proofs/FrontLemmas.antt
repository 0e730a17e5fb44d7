-- What is known of the front of a list of objects is known of every list with this front.
use Rattle.std.proofs.Common.{◌≡◌, ℕ, zero, suc, ◌<◌, ◌≤◌, ◌+◌, true, List, [], ◌∷◌, ◌++◌, drop, length, get_or, take, Option, Some, refl, sym, ap, subst, ◌∙◌, arith, inl, inr}
use Rattle.std.specs.List.{IsDistinct}
use Rattle.std.specs.Option.{option_map}
use Rattle.std.specs.Str.{bytes_eq}
use Rattle.std.proofs.lemmas.Bool.{cases_Bool}
use Rattle.std.proofs.Math.ListN.{get_or-append}
use Rattle.std.proofs.Math.Seq.{take-length, take-suc}
use Rattle.std.proofs.lemmas.List.{get_or-take, length-map, length-take, length-take-le, map-append, take-append-drop, take-map, take-take}
use Rattle.std.specs.Prelude.{All}
use Rattle.std.proofs.lemmas.List.Elements.{All-append, All-drop, All-take, All-weaker}
use Rattle.git_model.specs.declared.kind.Kind.{Kind}
use Rattle.git_model.specs.Content.{Content}
use Rattle.git_model.specs.Repository.{Object}
use Rattle.git_model.specs.References.{Reference, references_of, object_at, place_of}
use Rattle.git_model.specs.GoodRepository.{StandsBefore}
use Rattle.git_model.proofs.Growing.{AreAlike, longer}
use Rattle.git_model.proofs.Places.{first_place, later_place}
use Rattle.tenant_tables.specs.declared.summary.Summary.{Summary}
use Rattle.tenant_tables.specs.Trees.{no_files}
use Rattle.pool_file_format.specs.Format.{RawObject}
use Rattle.pool_file_checks.specs.Objects.{IsContent}
use Rattle.pool_file_checks.specs.Own.{Rows, row, rows_of, names_of, objects_in, own_objects, AreDistinct}
use Rattle.pool_file_checks.specs.Sums.{Sums}
use Rattle.pool_file_checks.specs.Quick.{AreFound, AreGoodFirst, AreKept, AreSums, IsGoodAt}
use Rattle.pool_file_checks.specs.Indexing.{IsIndexed}
use Rattle.pool_file_checks.specs.Fronts.{IsFront}
use Rattle.pool_file_checks.specs.declared.fronts.Front.{Front}
use Rattle.pool_file_checks.proofs.ConnectLemmas.{own_length}
use Rattle.pool_file_checks.proofs.GoodLemmas.{GoodSoFar, good_start, good_on, good_end, sums_end, own_distinct}
use Rattle.pool_file_checks.proofs.OwnObjects.{ids}
use Rattle.pool_file_checks.proofs.WholeLemmas.{IsOwn}
use Rattle.pool_file_checks.proofs.QuickLemmas.{found_own}

-- ---- one front, two lists

there : (id : List ℕ) (front xs : List Object) → place_of id (front ++ xs) < length front → place_of id front < length front
there id [] xs lt = absurd (omega (arith, lt))
there id (o ∷ front) xs lt = elim (cases_Bool (bytes_eq id o.id)) [
  | inl yea ↦ (let p = first_place id o front yea in omega (arith, p))
  | inr nay ↦
      let p = later_place id o (front ++ xs) nay in
      let q = later_place id o front nay in
      let r = there id front xs (omega (arith, p, lt)) in
      omega (arith, q, r)
]

-- a name that stands in the front has the same place and object in both
alike : (front xs ys : List Object) (id : List ℕ) → place_of id (front ++ xs) < length front
    → AreAlike id (front ++ ys) (front ++ xs)
alike front xs ys id lt =
    let t = there id front xs lt in
    let l = longer id front ys t in
    let m = longer id front xs t in
    record { place = l.place ∙ sym m.place; object = l.object ∙ sym m.object }

stands : (front xs ys : List Object) (i : ℕ) → i ≤ length front → (r : Reference) → StandsBefore (front ++ xs) i r
    → StandsBefore (front ++ ys) i r
stands front xs ys i le r s =
    let b = s.before in
    let a = alike front xs ys r.id (omega (arith, b, le)) in
    let p = a.place in record {
      before = omega (arith, p, b);
      kind = ap (λ (o : Option Content). option_map (λ (c : Content). c.kind) o) a.object ∙ s.kind;
    }

kept_in_other : (front xs ys : List Object) (i : ℕ) → i ≤ length front → (kept : List Summary) (sums : Sums)
    → AreKept (front ++ ys) i kept sums → AreKept (front ++ xs) i kept sums
kept_in_other front xs ys i le kept sums h = record {
  size = h.size;
  each = λ id lt tree.
      let a = alike front xs ys id (omega (arith, lt, le)) in
      let p = a.place in
      h.each id (omega (arith, p, lt)) (ap (λ (o : Option Content). option_map (λ (c : Content). c.kind) o) a.object ∙ tree)
      ∙ ap (λ (n : ℕ). Some (get_or kept n no_files)) p;
}

good_in_other : (front xs ys : List Object) (i : ℕ) → i ≤ length front → (kept : List Summary) (k : Kind) (bytes : List ℕ) (sum : Summary)
    → IsGoodAt (front ++ xs) i kept k bytes sum → IsGoodAt (front ++ ys) i kept k bytes sum
good_in_other front xs ys i le kept k bytes sum g = record {
  text = g.text;
  stands = All-weaker (StandsBefore (front ++ xs) i) (StandsBefore (front ++ ys) i) (stands front xs ys i le) (references_of k bytes) g.stands;
  fits = λ sums are. g.fits sums (kept_in_other front xs ys i le kept sums are);
}

same_object : (front xs ys : List Object) (i : ℕ) → i < length front → object_at i (front ++ xs) ≡ object_at i (front ++ ys)
unfolding object_at
same_object front xs ys i lt = get_or-append front xs _ i lt ∙ sym (get_or-append front ys _ i lt)

within : (n : ℕ) (kept : List Summary) (i : ℕ) → i < length (take n kept) → (i < n) × (i < length kept)
within n kept i lt = let s = length-take n kept in (omega (arith, s, lt), omega (arith, s, lt))

-- the first summaries that are kept of one list are those of the other
first_in_other : (front xs ys : List Object) (kept : List Summary) (n : ℕ) → n ≤ length front
    → AreGoodFirst (front ++ xs) kept → AreGoodFirst (front ++ ys) (take n kept)
first_in_other front xs ys kept n le g = record {
  before = record { size = refl; each = λ i lt. let w = within n kept i lt in here i w.0 (g.before.each i w.1) };
  contents = λ i lt.
      let w = within n kept i lt in let less = w.0 in
      subst (λ (o : Object). IsContent o.content) (same_object front xs ys i (omega (arith, less, le))) (g.contents i w.1);
}
  where
    here : (i : ℕ) → i < n
        → IsGoodAt (front ++ xs) i (take i kept) (object_at i (front ++ xs)).content.kind (object_at i (front ++ xs)).content.bytes (get_or kept i no_files)
        → IsGoodAt (front ++ ys) i (take i (take n kept)) (object_at i (front ++ ys)).content.kind (object_at i (front ++ ys)).content.bytes
        (get_or (take n kept) i no_files)
    here i less one =
        subst (λ (s : Summary). IsGoodAt (front ++ ys) i (take i (take n kept)) (object_at i (front ++ ys)).content.kind
        (object_at i (front ++ ys)).content.bytes s) (sym (get_or-take n kept i no_files less))
        (subst (λ (l : List Summary). IsGoodAt (front ++ ys) i l (object_at i (front ++ ys)).content.kind
        (object_at i (front ++ ys)).content.bytes (get_or kept i no_files)) (sym (take-take i n kept (omega (arith, less))))
        (subst (λ (o : Object). IsGoodAt (front ++ ys) i (take i kept) o.content.kind o.content.bytes (get_or kept i no_files))
        (same_object front xs ys i (omega (arith, less, le)))
        (good_in_other front xs ys i (omega (arith, less, le)) (take i kept) (object_at i (front ++ xs)).content.kind
        (object_at i (front ++ xs)).content.bytes (get_or kept i no_files) one)))

-- ---- rows

parted : (os : List RawObject) (rows : Rows) (n : ℕ) → objects_in os rows ≡ objects_in os (take n rows) ++ objects_in os (drop n rows)
unfolding objects_in
parted os rows n = ap (λ (rs : Rows). objects_in os rs) (sym (take-append-drop n rows)) ∙ map-append _ (take n rows) (drop n rows)

-- Rows that begin alike: what is kept of the first is true of both.
pub first_of_rows : (os : List RawObject) (old new : Rows) (kept : List Summary) (n : ℕ) → n ≤ length old → take n old ≡ take n new
    → AreGoodFirst (objects_in os old) kept → AreGoodFirst (objects_in os new) (take n kept)
first_of_rows os old new kept n le same g =
    let front = objects_in os (take n old) in
    let size : length front ≡ n = own_length os (take n old) ∙ length-take-le n old le in
    let other : objects_in os new ≡ front ++ objects_in os (drop n new) =
    parted os new n ∙ ap (λ (rs : Rows). objects_in os rs ++ objects_in os (drop n new)) (sym same) in
    subst (λ (l : List Object). AreGoodFirst l (take n kept)) (sym other)
    (first_in_other front (objects_in os (drop n old)) (objects_in os (drop n new)) kept n (omega (arith, size))
    (subst (λ (l : List Object). AreGoodFirst l kept) (parted os old n) g))

-- ---- all objects

so_far : (os : List Object) (kept : List Summary) → IsDistinct bytes_eq (ids os) → length kept ≤ length os → AreGoodFirst os kept
    → (n : ℕ) → n ≤ length kept → GoodSoFar os n (take n kept)
so_far os kept distinct few g zero le = good_start os (take 0 kept) refl
so_far os kept distinct few g (suc n) le =
    let lt : n < length kept = omega (arith, le) in
    let next : n + 1 ≡ suc n = omega arith in
    subst (λ (k : ℕ). GoodSoFar os k (take (suc n) kept)) next
    (good_on os n (take n kept) (take (suc n) kept) true distinct (omega (arith, lt, few))
    (so_far os kept distinct few g n (omega (arith, le))) refl (g.contents n lt)
    (record { sum = get_or kept n no_files; added = take-suc kept n no_files lt; good = g.before.each n lt }))

pub all_so_far : (os : List Object) (kept : List Summary) → IsDistinct bytes_eq (ids os) → length kept ≡ length os → AreGoodFirst os kept
    → GoodSoFar os (length os) kept
all_so_far os kept distinct size g =
    subst (λ (k : ℕ). GoodSoFar os k kept) size
    (subst (λ (l : List Summary). GoodSoFar os (length kept) l) (take-length kept)
    (so_far os kept distinct (omega (arith, size)) g (length kept) (omega arith)))

-- ---- what is kept

pub none_is_front : (digest : List ℕ → List ℕ) (os : List RawObject) (front : Front) → front.numbers.items ≡ [] → front.index.entries ≡ []
    → front.sums.items ≡ [] → IsFront digest os front
unfolding IsDistinct
none_is_front digest os front numbers rows sums =
    let none : length front.sums.items ≡ 0 = ap length sums in record {
      rows = rows ∙ sym (ap (λ (ns : List ℕ). rows_of (names_of digest os) ns) numbers);
      distinct = subst (λ (rs : Rows). AreDistinct rs) (sym rows) tt;
      all = none ∙ sym (ap length rows);
      good = record {
        before = record { size = refl; each = λ i lt. absurd (omega (arith, lt, none)) };
        contents = λ i lt. absurd (omega (arith, lt, none));
      };
    }

module _ (digest : List ℕ → List ℕ) (os : List RawObject) (names : List (List ℕ)) (numbers : List ℕ) (front : Front) (count : ℕ)
    (named : names ≡ names_of digest os) (old : IsFront digest os front) (first : count ≤ length front.numbers.items) (second : count ≤ length numbers)
    (same : take count front.numbers.items ≡ take count numbers) where
  enough : count ≤ length front.index.entries
  enough =
      let size : length front.index.entries ≡ length front.numbers.items =
      ap length old.rows ∙ length-map front.numbers.items (row (names_of digest os)) in omega (arith, size, first)

  -- the rows that are kept are the first of the tenant's
  cut_rows : take count front.index.entries ≡ rows_of names (take count numbers)
  cut_rows =
      ap (λ (rs : Rows). take count rs) old.rows ∙ take-map (row (names_of digest os)) count front.numbers.items
      ∙ ap (λ (ns : List ℕ). rows_of (names_of digest os) ns) same
      ∙ ap (λ (ids : List (List ℕ)). rows_of ids (take count numbers)) (sym named)

  pub cut_indexed : (rows : Rows) → rows ≡ take count front.index.entries → AreDistinct rows → IsIndexed names numbers rows
  cut_indexed rows is distinct =
      let size : length rows ≡ count = ap length is ∙ length-take-le count front.index.entries enough in
      (is ∙ cut_rows ∙ ap (λ (n : ℕ). rows_of names (take n numbers)) (sym size), distinct)

  pub cut_good : (rows : Rows) → rows ≡ rows_of names numbers → (sums : List Summary) → sums ≡ take count front.sums.items
      → AreGoodFirst (objects_in os rows) sums × (length sums ≤ length rows)
  cut_good rows is sums cut =
      let alike : take count front.index.entries ≡ take count rows =
      cut_rows ∙ sym (take-map (row names) count numbers) ∙ ap (λ (rs : Rows). take count rs) (sym is) in
      let size : length rows ≡ length numbers = ap length is ∙ length-map numbers (row names) in
      let few = length-take count front.sums.items in
      let cut_size = ap length cut in (
        subst (λ (l : List Summary). AreGoodFirst (objects_in os rows) l) (sym cut)
            (first_of_rows os front.index.entries rows front.sums.items count enough alike old.good),
        omega (arith, size, few, cut_size, second),
      )

  pub numbers_again : take count front.numbers.items ++ drop count numbers ≡ numbers
  numbers_again = ap (λ (l : List ℕ). l ++ drop count numbers) same ∙ take-append-drop count numbers

  pub is_front : (new : Front) → new.numbers.items ≡ numbers → new.index.entries ≡ rows_of names numbers → AreDistinct (rows_of names numbers)
      → AreGoodFirst (objects_in os new.index.entries) new.sums.items × (length new.sums.items ≡ length new.index.entries)
      → IsFront digest os new
  is_front new all is distinct good = record {
    rows = is ∙ ap (λ (ids : List (List ℕ)). rows_of ids numbers) named ∙ ap (λ (ns : List ℕ). rows_of (names_of digest os) ns) (sym all);
    distinct = subst (λ (rs : Rows). AreDistinct rs) (sym is) distinct;
    all = good.1;
    good = good.0;
  }

-- ---- what is known of a tenant's objects

module _ (digest : List ℕ → List ℕ) (os : List RawObject) (front : Front) (f : IsFront digest os front) where
  front_so_far : GoodSoFar (objects_in os front.index.entries) (length (objects_in os front.index.entries)) front.sums.items
  front_so_far =
      all_so_far (objects_in os front.index.entries) front.sums.items (own_distinct os front.index.entries f.distinct)
      (f.all ∙ sym (own_length os front.index.entries)) f.good

  own : IsOwn digest os front.numbers.items front.index.entries
  own = record {
    distinct = subst (λ (rs : Rows). AreDistinct rs) f.rows f.distinct;
    objects = ap (λ (rs : Rows). objects_in os rs) f.rows;
  }

  pub front_found : AreFound digest os front.numbers.items
  front_found =
      found_own digest os front.numbers.items front.index.entries own
      (good_end (objects_in os front.index.entries) (length (objects_in os front.index.entries)) front.sums.items (omega arith) front_so_far)

  pub front_sums : AreSums [] front.sums.items (own_objects digest os front.numbers.items)
  front_sums =
      subst (λ (l : List Object). AreSums [] front.sums.items l) own.objects
      (sums_end (objects_in os front.index.entries) (length (objects_in os front.index.entries)) front.sums.items front_so_far)

-- ---- numbers that two lists begin with

pub same_on : (xs ys : List ℕ) (i : ℕ) → i < length xs → i < length ys → take i xs ≡ take i ys → get_or xs i 0 ≡ get_or ys i 0
    → take (i + 1) xs ≡ take (i + 1) ys
same_on xs ys i l m same one =
    let next : suc i ≡ i + 1 = omega arith in
    subst (λ (n : ℕ). take n xs ≡ take n ys) next
    (take-suc xs i 0 l ∙ ap (λ (zs : List ℕ). zs ++ get_or xs i 0 ∷ []) same ∙ ap (λ (n : ℕ). take i ys ++ n ∷ []) one ∙ sym (take-suc ys i 0 m))

-- ---- a front that is taken out

pub others_are : {X : Type 0} (P : X → Type 0) (xs : List X) (i : ℕ) → All P xs → All P (take i xs ++ drop (i + 1) xs)
others_are P xs i all = All-append P (take i xs) (drop (i + 1) xs) (All-take P i xs all) (All-drop P (i + 1) xs all)

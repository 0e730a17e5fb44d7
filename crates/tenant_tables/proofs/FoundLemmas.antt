-- What an abbreviation finds by the index.
use Rattle.std.proofs.Common.{◌≡◌, ◌≢◌, ℕ, zero, suc, Bool, true, false, cond, ◌&&◌, ◌||◌, not, List, [], ◌∷◌, ◌++◌, ◌+◌, ◌<◌, length, take, drop, filter, slice_get, sum_by, IsPermutation, is_some, Some, refl, sym, ap, ap₂, subst, ◌∙◌, arith}
use Rattle.std.specs.Prelude.{All, if◌then◌else◌}
use Rattle.std.specs.BTreeMap.Range.{range_contains}
use Rattle.std.specs.Cmp.Lexicographic.{slice_cmp, nat_list_cmp_total}
use Rattle.std.specs.List.{AllByRecursion, IsDistinct, list_any}
use Rattle.std.specs.Map.{lookup}
use Rattle.std.specs.Ordering.{nat_cmp, is_lt, is_le, ordering_reverse}
use Rattle.std.specs.declared.cmp.Ordering.{Ordering}
use Rattle.std.specs.declared.cmp.Ordering.TheVariants.{Less, Equal, Greater}
use Rattle.std.specs.Str.{bytes_eq}
use Rattle.std.specs.declared.ops.Bound.TheVariants.{Included}
use Rattle.std.proofs.lemmas.List.{append-nil, map-append, take-append-drop, take-map}
use Rattle.std.proofs.lemmas.List.Elements.{All-head, All-tail, All-take, filter-append}
use Rattle.std.proofs.lemmas.List.Sorted.{IsPermutation-append, sum_by-IsPermutation, list_any-IsPermutation}
use Rattle.std.proofs.lemmas.List.Sums.{sum_by-cons}
use Rattle.std.proofs.lemmas.Map.Views.{any-filter_same}
use Rattle.std.proofs.lemmas.Slice.Eq.{bytes_eq-Decides}
use Rattle.git_model.specs.ObjectName.{IsObjectName}
use Rattle.name_index.specs.Index.{is_between, two_of, View as IndexView, in_sight}
use Rattle.name_index.specs.declared.found.Between.{Between}
use Rattle.name_index.specs.declared.found.Between.TheVariants as between
use Rattle.tenant_tables.specs.declared.found.Found.{Found}
use Rattle.tenant_tables.specs.declared.found.Found.TheVariants as found
use Rattle.tenant_tables.specs.declared.entry.Entry.{Entry}
use Rattle.tenant_tables.specs.Abbreviation.{Bounds, begins, found_among, only_of}
use Rattle.tenant_tables.specs.Index.{IsIndexed}
use Rattle.tenant_tables.specs.View.{Entries, entry_named, names}

-- ---- names in a list

pub IsDistinct-take : (e : List ℕ → List ℕ → Bool) (n : ℕ) (xs : List (List ℕ)) → IsDistinct e xs
    → IsDistinct e (take n xs)
unfolding IsDistinct
IsDistinct-take e zero xs h = tt
IsDistinct-take e (suc n) [] h = h
IsDistinct-take e (suc n) (x ∷ xs) h = (each n xs h.0, IsDistinct-take e n xs h.1)
  where
    each : (k : ℕ) (ys : List (List ℕ)) → AllByRecursion (λ y. e x y ≡ false) ys
        → AllByRecursion (λ y. e x y ≡ false) (take k ys)
    each zero ys g = tt
    each (suc k) [] g = g
    each (suc k) (y ∷ ys) g = (g.0, each k ys g.1)

pub same_name : (x y : List ℕ) → bytes_eq x y ≡ true → x ≡ y
same_name x y h = (bytes_eq-Decides x y).0 h

itself : (x : List ℕ) → bytes_eq x x ≡ true
itself x = (bytes_eq-Decides x x).1 refl

any_one : (q x : List ℕ) → list_any (bytes_eq q) (x ∷ []) ≡ true → q ≡ x
any_one q x h = by (bytes_eq q x) refl h
  where
    by : (b : Bool) → bytes_eq q x ≡ b → (b || false) ≡ true → q ≡ x
    by true e g = same_name q x e
    by false e g = cc g

any_first : (x : List ℕ) (xs : List (List ℕ)) → list_any (bytes_eq x) (x ∷ xs) ≡ true
any_first x xs = rw (itself x) refl

pub any-names : (q : List ℕ) (es : Entries)
    → list_any (bytes_eq q) (names es) ≡ is_some (entry_named q es)
unfolding entry_named
any-names q [] = refl
any-names q (x ∷ es) = by (bytes_eq q x.0) (any-names q es)
  where
    by : (b : Bool) → list_any (bytes_eq q) (names es) ≡ is_some (lookup (bytes_eq q) es)
        → (b || list_any (bytes_eq q) (names es))
        ≡ is_some (cond b (Some x.1) (lookup (bytes_eq q) es))
    by true h = refl
    by false h = h

any-filter : (q : List ℕ) (p : List ℕ → Bool) (xs : List (List ℕ))
    → list_any (bytes_eq q) (filter p xs) ≡ (p q && list_any (bytes_eq q) xs)
any-filter q p xs = any-filter_same (bytes_eq q) p (p q) (λ k h. ap p (sym (same_name q k h))) xs

pub named-take : (n : ℕ) (es : Entries) → All IsObjectName (names es)
    → All IsObjectName (names (take n es))
named-take n es h =
    subst (All IsObjectName) (take-map (λ (e : List ℕ × Entry). e.0) n es)
    (All-take IsObjectName n (names es) h)

pub distinct-take : (n : ℕ) (es : Entries) → IsDistinct bytes_eq (names es)
    → IsDistinct bytes_eq (names (take n es))
distinct-take n es h =
    subst (IsDistinct bytes_eq) (take-map (λ (e : List ℕ × Entry). e.0) n es)
    (IsDistinct-take bytes_eq n (names es) h)

-- digits that begin no name find none
pub filter-none : (ds : List ℕ) (ids : List (List ℕ)) → All IsObjectName ids
    → ((id : List ℕ) → IsObjectName id → begins ds id ≡ false)
    → filter (begins ds) ids ≡ []
filter-none ds [] h none = refl
filter-none ds (id ∷ ids) h none =
    rw (none id (All-head IsObjectName id ids h)) (filter-none ds ids (All-tail IsObjectName id ids h) none)

pub found_none : (ds : List ℕ) (count : ℕ) (es : Entries)
    → All IsObjectName (names es)
    → ((id : List ℕ) → IsObjectName id → begins ds id ≡ false)
    → found.None ≡ found_among ds (names (take count es))
found_none ds count es named none =
    ap only_of
    (sym (filter-none ds (names (take count es)) (named-take count es named) none))

-- one name more than one is many, whatever comes then
pub found_many : (p : List ℕ → Bool) (ids rest : List (List ℕ)) (id : List ℕ) → p id ≡ true
    → only_of (filter p ids) ≢ found.None
    → only_of (filter p (ids ++ id ∷ rest)) ≡ found.Many
found_many p ids rest id seen some =
    rw (filter-append p ids (id ∷ rest), seen) (by (filter p ids) some)
  where
    by : (xs : List (List ℕ)) → only_of xs ≢ found.None
        → only_of (xs ++ id ∷ filter p rest) ≡ found.Many
    by [] none = absurd (none refl)
    by (x ∷ []) none = refl
    by (x ∷ y ∷ xs) none = refl

-- a walk that has seen these names passes the next one by, or finds it as the first
pub walked_past : (p : List ℕ → Bool) (ids : List (List ℕ)) (id : List ℕ) → p id ≡ false
    → only_of (filter p ids) ≡ only_of (filter p (ids ++ id ∷ []))
walked_past p ids id outside =
    ap only_of
    (sym (filter-append p ids (id ∷ []) ∙ ap (λ b. filter p ids ++ cond b (id ∷ []) []) outside ∙ append-nil _))

pub walked_first : (p : List ℕ → Bool) (ids : List (List ℕ)) (id : List ℕ) → p id ≡ true
    → found.None ≡ only_of (filter p ids)
    → found.One id ≡ only_of (filter p (ids ++ id ∷ []))
walked_first p ids id inside none =
    by (filter p ids) none
    ∙ ap only_of
    (sym (filter-append p ids (id ∷ []) ∙ ap (λ b. filter p ids ++ cond b (id ∷ []) []) inside))
  where
    by : (xs : List (List ℕ)) → found.None ≡ only_of xs → found.One id ≡ only_of (xs ++ id ∷ [])
    by [] h = refl
    by (x ∷ []) h = cc h
    by (x ∷ y ∷ xs) h = cc h

-- ---- what the index finds

abbrev pub found_of : Between → Found
found_of between.None = found.None
found_of (between.One id) = found.One id
found_of between.Many = found.Many

-- lists of one length with the same members
same_found : (xs ys : List (List ℕ)) → length xs ≡ length ys
    → ((q : List ℕ) → list_any (bytes_eq q) xs ≡ list_any (bytes_eq q) ys)
    → found_of (two_of xs) ≡ only_of ys
same_found [] [] n h = refl
same_found [] (y ∷ ys) n h = absurd (omega arith)
same_found (x ∷ xs) [] n h = absurd (omega arith)
same_found (x ∷ []) (y ∷ []) n h = ap found.One (any_one x y (sym (h x) ∙ any_first x []))
same_found (x ∷ []) (y ∷ z ∷ ys) n h = absurd (omega arith)
same_found (x ∷ w ∷ xs) (y ∷ []) n h = absurd (omega arith)
same_found (x ∷ w ∷ xs) (y ∷ z ∷ ys) n h = refl

count : (p : List ℕ → Bool) → List ℕ → ℕ
count p x = cond (p x) 1 0

length-filter_is : (p : List ℕ → Bool) (xs : List (List ℕ))
    → length (filter p xs) ≡ sum_by (count p) xs
unfolding count
length-filter_is p [] = refl
length-filter_is p (x ∷ xs) = by (p x) (length-filter_is p xs) ∙ sym (sum_by-cons (count p) x xs)
  where
    by : (b : Bool) → length (filter p xs) ≡ sum_by (count p) xs
        → length (cond b (x ∷ filter p xs) (filter p xs)) ≡ cond b 1 0 + sum_by (count p) xs
    by true h = omega (arith, h)
    by false h = omega (arith, h)

pub permuted : (p : List ℕ → Bool) (xs ys : List (List ℕ)) → IsPermutation xs ys
    → found_of (two_of (filter p xs)) ≡ only_of (filter p ys)
permuted p xs ys same =
    same_found (filter p xs) (filter p ys)
    (length-filter_is p xs ∙ sym (sum_by-IsPermutation (count p) xs ys same) ∙ sym (length-filter_is p ys))
    (λ q. any-filter q p xs ∙ ap (λ (t : Bool). p q && t) (list_any-IsPermutation (bytes_eq q) xs ys same)
    ∙ sym (any-filter q p ys))

filter-same : (p r : List ℕ → Bool) (ids : List (List ℕ)) → All IsObjectName ids
    → ((id : List ℕ) → IsObjectName id → p id ≡ r id) → filter p ids ≡ filter r ids
filter-same p r [] h same = refl
filter-same p r (id ∷ ids) h same =
    rw (same id (All-head IsObjectName id ids h), filter-same p r ids (All-tail IsObjectName id ids h) same) refl

turned_lt : (r s : Ordering) → s ≡ ordering_reverse r → not (is_lt s) ≡ is_le r
turned_lt Less s e = rw e refl
turned_lt Equal s e = rw e refl
turned_lt Greater s e = rw e refl

turned_le : (r s : Ordering) → s ≡ ordering_reverse r → is_le s ≡ not (is_lt r)
turned_le Less s e = rw e refl
turned_le Equal s e = rw e refl
turned_le Greater s e = rw e refl

between_is : (first last id : List ℕ)
    → is_between first last id
    ≡ range_contains (slice_cmp nat_cmp) (Included first) (Included last) id
between_is first last id =
    ap₂ (λ (a b : Bool). a && b) (turned_lt _ _ (nat_list_cmp_total.antisymm id first))
    (turned_le _ _ (nat_list_cmp_total.antisymm id last))

-- the entries whose names the index has
abbrev pub indexed : Bool → Entries → ℕ → Entries
indexed all es committed = if all then es else take committed es

pub in_index : (all : Bool) (es : Entries) (index : IndexView) (committed : ℕ)
    → IsIndexed es index committed
    → IsPermutation (in_sight all index) (names (indexed all es committed))
in_index true es index committed h =
    subst (IsPermutation (index.committed ++ index.added))
    (sym (map-append (λ (e : List ℕ × Entry). e.0) (take committed es) (drop committed es))
    ∙ ap names (take-append-drop committed es))
    (IsPermutation-append index.committed (names (take committed es)) index.added (names (drop committed es)) h.first h.after)
in_index false es index committed h = h.first

pub found_by_index : (p : List ℕ → Bool) (all : Bool) (es : Entries) (index : IndexView)
    (committed : ℕ) (b : Between)
    → IsIndexed es index committed → b ≡ two_of (filter p (in_sight all index))
    → found_of b ≡ only_of (filter p (names (indexed all es committed)))
found_by_index p all es index committed b h is =
    ap found_of is
    ∙ permuted p (in_sight all index) (names (indexed all es committed))
    (in_index all es index committed h)

-- names between two are those that the digits begin
pub begun_between : (ds first last : List ℕ) (count : ℕ) (es : Entries)
    → All IsObjectName (names es)
    → Bounds ds first last
    → only_of (filter (is_between first last) (names (take count es)))
    ≡ found_among ds (names (take count es))
begun_between ds first last count es named bounds =
    ap only_of
    (filter-same (is_between first last) (begins ds) (names (take count es)) (named-take count es named)
    (λ id name. between_is first last id ∙ bounds.between id name))

pub begun_among : (ds first last : List ℕ) (count : ℕ) (es fs : Entries)
    → All IsObjectName (names es) → Bounds ds first last → fs ≡ take count es
    → only_of (filter (is_between first last) (names fs)) ≡ found_among ds (names (take count es))
begun_among ds first last count es fs named bounds is =
    ap (λ (gs : Entries). only_of (filter (is_between first last) (names gs))) is
    ∙ begun_between ds first last count es named bounds

-- ---- the first names of a list of which the index finds none, or one

split : (p : List ℕ → Bool) (count : ℕ) (es : Entries)
    → filter p (names es)
    ≡ filter p (names (take count es)) ++ filter p (names (drop count es))
split p count es =
    ap (λ (fs : Entries). filter p (names fs)) (sym (take-append-drop count es))
    ∙ ap (filter p) (map-append (λ (e : List ℕ × Entry). e.0) (take count es) (drop count es))
    ∙ filter-append p (names (take count es)) (names (drop count es))

pub none_within : (p : List ℕ → Bool) (count : ℕ) (es : Entries)
    → found.None ≡ only_of (filter p (names es))
    → found.None ≡ only_of (filter p (names (take count es)))
none_within p count es h =
    by (filter p (names (take count es))) (filter p (names (drop count es)))
    (h ∙ ap only_of (split p count es))
  where
    by : (xs ys : List (List ℕ)) → found.None ≡ only_of (xs ++ ys) → found.None ≡ only_of xs
    by [] ys h = refl
    by (x ∷ []) [] h = cc h
    by (x ∷ []) (y ∷ ys) h = cc h
    by (x ∷ y ∷ xs) ys h = cc h

pub one_within : (p : List ℕ → Bool) (count : ℕ) (es : Entries) (id : List ℕ)
    → found.One id ≡ only_of (filter p (names es))
    → (if is_some (entry_named id (take count es)) then found.One id else found.None)
    ≡ only_of (filter p (names (take count es)))
one_within p count es id h =
    ap (λ (b : Bool). if b then found.One id else found.None) (sym (any-names id (take count es)))
    ∙ by (filter p (names (take count es))) (filter p (names (drop count es))) (p id) _ _
    (h ∙ ap only_of (split p count es)) (any-filter id p (names (take count es)))
    (any-filter id p (names (drop count es)))
  where
    alone : (x : List ℕ) (b t : Bool) → found.One id ≡ found.One x
        → list_any (bytes_eq id) (x ∷ []) ≡ (b && t)
        → (if t then found.One id else found.None) ≡ found.One x
    alone x b true same here = same
    alone x true false same here =
        let is : id ≡ x = cc same in
        let lost : true ≡ false = sym (any_first id []) ∙ ap (λ (y : List ℕ). list_any (bytes_eq id) (y ∷ [])) is ∙ here in
        cc lost
    alone x false false same here =
        let is : id ≡ x = cc same in
        let lost : true ≡ false = sym (any_first id []) ∙ ap (λ (y : List ℕ). list_any (bytes_eq id) (y ∷ [])) is ∙ here in
        cc lost

    beyond : (y : List ℕ) (b t u : Bool) → found.One id ≡ found.One y → false ≡ (b && t)
        → list_any (bytes_eq id) (y ∷ []) ≡ (b && u)
        → (if t then found.One id else found.None) ≡ found.None
    beyond y b false u same none here = refl
    beyond y true true u same none here = cc none
    beyond y false true u same none here =
        let is : id ≡ y = cc same in
        let lost : true ≡ false = sym (any_first id []) ∙ ap (λ (z : List ℕ). list_any (bytes_eq id) (z ∷ [])) is ∙ here in
        cc lost

    by : (xs ys : List (List ℕ)) (b t u : Bool) → found.One id ≡ only_of (xs ++ ys)
        → list_any (bytes_eq id) xs ≡ (b && t) → list_any (bytes_eq id) ys ≡ (b && u)
        → (if t then found.One id else found.None) ≡ only_of xs
    by [] [] b t u h none none_too = cc h
    by [] (y ∷ []) b t u h none here = beyond y b t u h none here
    by [] (y ∷ z ∷ ys) b t u h none here = cc h
    by (x ∷ []) [] b t u h here none = alone x b t h here
    by (x ∷ []) (y ∷ ys) b t u h here there = cc h
    by (x ∷ z ∷ xs) ys b t u h here there = cc h

-- ---- a walk over the first names

at_place : (i n : ℕ) (es : Entries) (e : List ℕ × Entry) → i < n → slice_get es i ≡ Some e
    → take n es ≡ take i es ++ e ∷ drop (suc i) (take n es)
at_place i zero es e lt h = absurd (omega arith)
at_place i (suc n) [] e lt h = cc h
at_place zero (suc n) (x ∷ es) e lt h =
    let same : x ≡ e = cc h in ap (λ (y : List ℕ × Entry). y ∷ take n es) same
at_place (suc i) (suc n) (x ∷ es) e lt h =
    ap (λ (fs : Entries). x ∷ fs) (at_place i n es e (omega (arith, lt)) h)

walk_names : (i n : ℕ) (es : Entries) (id : List ℕ) (e : Entry) → i < n
    → slice_get es i ≡ Some (id, e)
    → names (take n es) ≡ names (take i es) ++ id ∷ names (drop (suc i) (take n es))
walk_names i n es id e lt at =
    ap names (at_place i n es (id, e) lt at)
    ∙ map-append (λ (x : List ℕ × Entry). x.0) (take i es) ((id, e) ∷ drop (suc i) (take n es))

-- finds a second, which is one too many
pub walked_second : (p : List ℕ → Bool) (i n : ℕ) (es : Entries) (id : List ℕ) (e : Entry)
    → i < n → slice_get es i ≡ Some (id, e) → p id ≡ true
    → only_of (filter p (names (take i es))) ≢ found.None
    → found.Many ≡ only_of (filter p (names (take n es)))
walked_second p i n es id e lt at inside some =
    sym
    (found_many p (names (take i es)) (names (drop (suc i) (take n es))) id inside some)
    ∙ ap (λ (ids : List (List ℕ)). only_of (filter p ids)) (sym (walk_names i n es id e lt at))

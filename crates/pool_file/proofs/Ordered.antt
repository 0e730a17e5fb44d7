-- How one more element goes into a list in the order of its keys.
use Rattle.std.proofs.Common.{◌≡◌, ℕ, Bool, true, false, cond, ◌&&◌, List, [], ◌∷◌, ◌++◌, map, length, Option, None, Some, T, refl, sym, ap, subst, ◌∙◌, arith}
use Rattle.std.specs.Ordering.{nat_cmp, is_eq, is_lt, match_ordering, eq_by_cmp}
use Rattle.std.specs.Cmp.Lexicographic.{slice_cmp}
use Rattle.std.specs.declared.cmp.Ordering.{Ordering}
use Rattle.std.specs.declared.cmp.Ordering.TheVariants.{Less, Equal, Greater}
use Rattle.std.specs.List.{AllByRecursion}
use Rattle.std.specs.BTreeSet.{insert_key}
use Rattle.std.specs.FinMap.{FinMap, IsAntisymmetric, find, put, is_sorted, entries, entries_sorted, from_entries, from_entries_push, entries-insert, get-entries, get-from_entries, len-entries, len-empty, same_map, slice_cmp-IsAntisymmetric, nat_cmp-IsAntisymmetric}
use Rattle.std.specs.FinMap.Entries.{by_order, below_all}
use Rattle.std.proofs.lemmas.Cmp.{nat_list_cmp_total}
use Rattle.std.proofs.lemmas.Map.Text.{is_eq-slice_cmp}
use Rattle.std.proofs.lemmas.Slice.Eq.{bytes_eq-Decides}
use Rattle.tenant_refs.proofs.Entries.{both, equal, first, less, second}
use Rattle.pool_file.specs.Listing.{listed_by}

abbrev pub key_cmp : List ℕ → List ℕ → Ordering
key_cmp = slice_cmp nat_cmp

key_exact : IsAntisymmetric key_cmp
key_exact = slice_cmp-IsAntisymmetric nat_cmp-IsAntisymmetric

is_less : (o : Ordering) → o ≡ Less → T (is_lt o)
is_less o e = subst (λ (x : Ordering). T (is_lt x)) (sym e) tt

same_key : (q k : List ℕ) → q ≡ k → eq_by_cmp key_cmp q k ≡ true
same_key q k e = is_eq-slice_cmp q k ∙ (bytes_eq-Decides q k).1 e

no_length : {A : Type 0} (es : List A) → length es ≡ 0 → es ≡ []
no_length [] e = refl
no_length (x ∷ es) e = absurd (omega arith)

module _ {X : Type 0} where
  below_more : (q k : List ℕ) (es : List (List ℕ × X)) → key_cmp q k ≡ Less
      → T (below_all key_cmp k es) → T (below_all key_cmp q es)
  below_more q k [] l b = tt
  below_more q k (e ∷ es) l b =
      both (is_lt (key_cmp q e.0)) (below_all key_cmp q es)
      (is_less (key_cmp q e.0) (nat_list_cmp_total.trans q k e.0 l
      (less (key_cmp k e.0) (first (is_lt (key_cmp k e.0)) (below_all key_cmp k es) b))))
      (below_more q k es l (second (is_lt (key_cmp k e.0)) (below_all key_cmp k es) b))

  not_below : (q : List ℕ) (es : List (List ℕ × X)) → T (below_all key_cmp q es)
      → find key_cmp q es ≡ None
  not_below q [] b = refl
  not_below q (e ∷ es) b =
      ap (λ (o : Ordering). cond (is_eq o) (Some e.1) (find key_cmp q es))
      (less (key_cmp q e.0) (first (is_lt (key_cmp q e.0)) (below_all key_cmp q es) b))
      ∙ not_below q es (second (is_lt (key_cmp q e.0)) (below_all key_cmp q es) b)

  -- an entry at the end changes nothing where its key is there
  find_again : (es : List (List ℕ × X)) (k : List ℕ) (v z : X) (q : List ℕ)
      → find key_cmp k es ≡ Some z → find key_cmp q (es ++ (k, v) ∷ []) ≡ find key_cmp q es
  find_again [] k v z q e = cc
  find_again (x ∷ es) k v z q e =
      by (eq_by_cmp key_cmp k x.0) (eq_by_cmp key_cmp q x.0) refl refl e
      (λ f. find_again es k v z q f)
    where
      by : (a b : Bool) → eq_by_cmp key_cmp k x.0 ≡ a → eq_by_cmp key_cmp q x.0 ≡ b
          → cond a (Some x.1) (find key_cmp k es) ≡ Some z
          → (find key_cmp k es ≡ Some z
          → find key_cmp q (es ++ (k, v) ∷ []) ≡ find key_cmp q es)
          → cond b (Some x.1) (find key_cmp q (es ++ (k, v) ∷ []))
          ≡ cond b (Some x.1) (find key_cmp q es)
      by a true t u f later = refl
      by false false t u f later = later f
      by true false t u f later =
          missed es (subst (λ (y : List ℕ). eq_by_cmp key_cmp q y ≡ false)
          (sym (key_exact k x.0 (equal (key_cmp k x.0) t))) u)
        where
          missed : (fs : List (List ℕ × X)) → eq_by_cmp key_cmp q k ≡ false
              → find key_cmp q (fs ++ (k, v) ∷ []) ≡ find key_cmp q fs
          missed [] n = ap (λ (c : Bool). cond c (Some v) None) n
          missed (y ∷ fs) n =
              ap (cond (eq_by_cmp key_cmp q y.0) (Some y.1)) (missed fs n)

module _ {X : Type 0} (key : X → List ℕ) where
  abbrev pub keyed_by : List X → List (List ℕ × X)
  keyed_by xs = map (λ x. (key x, x)) xs

  abbrev pub order_by : X → X → Ordering
  order_by x y = key_cmp (key x) (key y)

  abbrev pub tree_of : List X → FinMap key_cmp X
  tree_of xs = from_entries {R = key_cmp} (keyed_by xs)

  values_back : (xs : List X) → map (λ e. e.1) (keyed_by xs) ≡ xs
  values_back [] = refl
  values_back (x ∷ xs) = ap (λ (l : List X). x ∷ l) (values_back xs)

  -- where no key is the same
  put_new : (x : X) (xs : List X) → find key_cmp (key x) (keyed_by xs) ≡ None
      → put key_cmp (key x) x (keyed_by xs) ≡ keyed_by (insert_key order_by xs x)
  put_new x [] e = refl
  put_new x (y ∷ ys) e = by (key_cmp (key x) (key y)) e (λ f. put_new x ys f)
    where
      by : (o : Ordering)
          → cond (is_eq o) (Some y) (find key_cmp (key x) (keyed_by ys)) ≡ None
          → (find key_cmp (key x) (keyed_by ys) ≡ None
          → put key_cmp (key x) x (keyed_by ys) ≡ keyed_by (insert_key order_by ys x))
          → by_order o ((key x, x) ∷ (key y, y) ∷ keyed_by ys) ((key y, x) ∷ keyed_by ys)
          ((key y, y) ∷ put key_cmp (key x) x (keyed_by ys))
          ≡ keyed_by (match_ordering o (x ∷ y ∷ ys) (y ∷ ys) (y ∷ insert_key order_by ys x))
      by Less f later = refl
      by Equal f later = cc
      by Greater f later =
          ap (λ (l : List (List ℕ × X)). (key y, y) ∷ l) (later f)

  -- where one is
  put_again : (x z : X) (xs : List X) → T (is_sorted key_cmp (keyed_by xs))
      → find key_cmp (key x) (keyed_by xs) ≡ Some z → insert_key order_by xs x ≡ xs
  put_again x z [] s e = cc
  put_again x z (y ∷ ys) s e =
      by (key_cmp (key x) (key y)) refl e
      (λ f. put_again x z ys
      (second (below_all key_cmp (key y) (keyed_by ys)) (is_sorted key_cmp (keyed_by ys)) s) f)
    where
      by : (o : Ordering) → key_cmp (key x) (key y) ≡ o
          → cond (is_eq o) (Some y) (find key_cmp (key x) (keyed_by ys)) ≡ Some z
          → (find key_cmp (key x) (keyed_by ys) ≡ Some z → insert_key order_by ys x ≡ ys)
          → match_ordering o (x ∷ y ∷ ys) (y ∷ ys) (y ∷ insert_key order_by ys x) ≡ y ∷ ys
      by Less t f later =
          let none = not_below (key x) (keyed_by ys) (below_more (key x) (key y) (keyed_by ys) t
          (first (below_all key_cmp (key y) (keyed_by ys)) (is_sorted key_cmp (keyed_by ys)) s)) in
          cc
      by Equal t f later = refl
      by Greater t f later = ap (λ (l : List X). y ∷ l) (later f)

  -- ---- the entries of the map have the keys of their values

  abbrev AreKeyed : List (List ℕ × X) → Type 0
  AreKeyed [] = Unit {0}
  AreKeyed (e ∷ es) = (e.0 ≡ key e.1) × AreKeyed es

  keyed_again : (es : List (List ℕ × X)) → AreKeyed es → keyed_by (map (λ e. e.1) es) ≡ es
  keyed_again [] k = refl
  keyed_again (e ∷ es) k = λ i. (sym k.0 i, e.1) ∷ keyed_again es k.1 i

  put_keyed : (x : X) (es : List (List ℕ × X)) → AreKeyed es
      → AreKeyed (put key_cmp (key x) x es)
  put_keyed x [] k = (refl, tt)
  put_keyed x (e ∷ es) k = by (key_cmp (key x) e.0) refl (put_keyed x es k.1)
    where
      by : (o : Ordering) → key_cmp (key x) e.0 ≡ o → AreKeyed (put key_cmp (key x) x es)
          → AreKeyed (by_order o ((key x, x) ∷ e ∷ es) ((e.0, x) ∷ es)
          (e ∷ put key_cmp (key x) x es))
      by Less t later = (refl, k)
      by Equal t later = (sym (key_exact (key x) e.0 t), k.1)
      by Greater t later = (k.0, later)

  entries_more : (x : X) (xs : List X)
      → entries (tree_of (x ∷ xs)) ≡ put key_cmp (key x) x (entries (tree_of xs))
  entries_more x xs = entries-insert nat_list_cmp_total (tree_of xs) (key x) x

  entries_none : entries (tree_of []) ≡ []
  entries_none =
      no_length (entries (tree_of []))
      (sym (len-entries (tree_of [])) ∙ len-empty key_cmp X)

  entries_keyed : (xs : List X) → AreKeyed (entries (tree_of xs))
  entries_keyed [] = subst AreKeyed (sym entries_none) tt
  entries_keyed (x ∷ xs) =
      subst AreKeyed (sym (entries_more x xs))
      (put_keyed x (entries (tree_of xs)) (entries_keyed xs))

  -- the list, keyed again, is what the map has
  listed_keyed : (xs : List X) → keyed_by (listed_by key xs) ≡ entries (tree_of xs)
  unfolding listed_by
  listed_keyed xs = keyed_again (entries (tree_of xs)) (entries_keyed xs)

  pub listed_sorted : (xs : List X) → T (is_sorted key_cmp (keyed_by (listed_by key xs)))
  listed_sorted xs =
      subst (λ (es : List (List ℕ × X)). T (is_sorted key_cmp es)) (sym (listed_keyed xs))
      (entries_sorted (tree_of xs))

  pub listed_none : listed_by key [] ≡ []
  unfolding listed_by
  listed_none = ap (λ (es : List (List ℕ × X)). map (λ e. e.1) es) entries_none

  found_listed : (q : List ℕ) (xs : List X)
      → find key_cmp q (keyed_by (listed_by key xs)) ≡ find key_cmp q (keyed_by xs)
  found_listed q xs =
      ap (find key_cmp q) (listed_keyed xs) ∙ sym (get-entries (tree_of xs) q)
      ∙ get-from_entries nat_list_cmp_total (keyed_by xs) q

  keyed_push : (xs : List X) (x : X)
      → keyed_by (xs ++ x ∷ []) ≡ keyed_by xs ++ (key x, x) ∷ []
  keyed_push [] x = refl
  keyed_push (y ∷ ys) x = ap (λ (l : List (List ℕ × X)). (key y, y) ∷ l) (keyed_push ys x)

  push_new : (xs : List X) (x : X) → find key_cmp (key x) (keyed_by xs) ≡ None
      → keyed_by (insert_key order_by (listed_by key xs) x) ≡ entries (tree_of (xs ++ x ∷ []))
  push_new xs x none =
      sym (put_new x (listed_by key xs) (found_listed (key x) xs ∙ none))
      ∙ ap (put key_cmp (key x) x) (listed_keyed xs)
      ∙ sym (entries-insert nat_list_cmp_total (tree_of xs) (key x) x)
      ∙ ap entries (sym (ap (from_entries {R = key_cmp}) (keyed_push xs x)
      ∙ from_entries_push nat_list_cmp_total key_exact (keyed_by xs) (key x) x none))

  push_again : (xs : List X) (x z : X) → find key_cmp (key x) (keyed_by xs) ≡ Some z
      → keyed_by (insert_key order_by (listed_by key xs) x) ≡ entries (tree_of (xs ++ x ∷ []))
  push_again xs x z some =
      ap keyed_by (put_again x z (listed_by key xs) (listed_sorted xs)
      (found_listed (key x) xs ∙ some))
      ∙ listed_keyed xs
      ∙ ap entries (sym (ap (from_entries {R = key_cmp}) (keyed_push xs x)
      ∙ same_map nat_list_cmp_total key_exact
      (from_entries (keyed_by xs ++ (key x, x) ∷ [])) (tree_of xs) (λ q.
      get-from_entries nat_list_cmp_total (keyed_by xs ++ (key x, x) ∷ []) q
      ∙ find_again (keyed_by xs) (key x) x z q some
      ∙ sym (get-from_entries nat_list_cmp_total (keyed_by xs) q))))

  -- one more element goes in as a set takes it
  pub listed_push : (xs : List X) (x : X)
      → insert_key order_by (listed_by key xs) x ≡ listed_by key (xs ++ x ∷ [])
  unfolding listed_by
  listed_push xs x =
      sym (values_back (insert_key order_by (listed_by key xs) x))
      ∙ ap (λ (es : List (List ℕ × X)). map (λ e. e.1) es)
      (by (find key_cmp (key x) (keyed_by xs)) refl)
    where
      by : (o : Option X) → find key_cmp (key x) (keyed_by xs) ≡ o
          → keyed_by (insert_key order_by (listed_by key xs) x)
          ≡ entries (tree_of (xs ++ x ∷ []))
      by None e = push_new xs x e
      by (Some z) e = push_again xs x z e

  -- ---- what holds of each element holds of each that is listed

  put_each : (P : X → Type 0) (k : List ℕ) (x : X) (es : List (List ℕ × X)) → P x
      → AllByRecursion (λ e. P e.1) es → AllByRecursion (λ e. P e.1) (put key_cmp k x es)
  put_each P k x [] p all = (p, tt)
  put_each P k x (e ∷ es) p all = by (key_cmp k e.0) (put_each P k x es p all.1)
    where
      by : (o : Ordering) → AllByRecursion (λ e. P e.1) (put key_cmp k x es)
          → AllByRecursion (λ e. P e.1) (by_order o ((k, x) ∷ e ∷ es) ((e.0, x) ∷ es)
          (e ∷ put key_cmp k x es))
      by Less later = (p, all)
      by Equal later = (p, all.1)
      by Greater later = (all.0, later)

  entries_each : (P : X → Type 0) (xs : List X) → AllByRecursion P xs
      → AllByRecursion (λ e. P e.1) (entries (tree_of xs))
  entries_each P [] all =
      subst (AllByRecursion (λ e. P e.1)) (sym entries_none) tt
  entries_each P (x ∷ xs) all =
      subst (AllByRecursion (λ e. P e.1)) (sym (entries_more x xs))
      (put_each P (key x) x (entries (tree_of xs)) all.0 (entries_each P xs all.1))

  values_each : (P : X → Type 0) (es : List (List ℕ × X)) → AllByRecursion (λ e. P e.1) es
      → AllByRecursion P (map (λ e. e.1) es)
  values_each P [] all = tt
  values_each P (e ∷ es) all = (all.0, values_each P es all.1)

  pub listed_each : (P : X → Type 0) (xs : List X) → AllByRecursion P xs
      → AllByRecursion P (listed_by key xs)
  unfolding listed_by
  listed_each P xs all = values_each P (entries (tree_of xs)) (entries_each P xs all)

module _ {X Y : Type 0} (key : X → List ℕ) (f : Y → X) where
  -- ---- elements that stand for others are listed as these are

  abbrev key_after : Y → List ℕ
  key_after y = key (f y)

  abbrev turned : List (List ℕ × Y) → List (List ℕ × X)
  turned es = map (λ e. (e.0, f e.1)) es

  put_turned : (k : List ℕ) (y : Y) (es : List (List ℕ × Y))
      → put key_cmp k (f y) (turned es) ≡ turned (put key_cmp k y es)
  put_turned k y [] = refl
  put_turned k y (e ∷ es) = by (key_cmp k e.0) (put_turned k y es)
    where
      by : (o : Ordering) → put key_cmp k (f y) (turned es) ≡ turned (put key_cmp k y es)
          → by_order o ((k, f y) ∷ (e.0, f e.1) ∷ turned es) ((e.0, f y) ∷ turned es)
          ((e.0, f e.1) ∷ put key_cmp k (f y) (turned es))
          ≡ turned (by_order o ((k, y) ∷ e ∷ es) ((e.0, y) ∷ es) (e ∷ put key_cmp k y es))
      by Less later = refl
      by Equal later = refl
      by Greater later = ap (λ (l : List (List ℕ × X)). (e.0, f e.1) ∷ l) later

  entries_turned : (ys : List Y)
      → entries (tree_of key (map f ys)) ≡ turned (entries (tree_of key_after ys))
  entries_turned [] = entries_none key ∙ sym (ap turned (entries_none key_after))
  entries_turned (y ∷ ys) =
      entries_more key (f y) (map f ys)
      ∙ ap (put key_cmp (key (f y)) (f y)) (entries_turned ys)
      ∙ put_turned (key (f y)) y (entries (tree_of key_after ys))
      ∙ ap turned (sym (entries_more key_after y ys))

  values_turned : (es : List (List ℕ × Y))
      → map (λ e. e.1) (turned es) ≡ map f (map (λ e. e.1) es)
  values_turned [] = refl
  values_turned (e ∷ es) = ap (λ (l : List X). f e.1 ∷ l) (values_turned es)

  pub listed_turned : (ys : List Y)
      → listed_by key (map f ys) ≡ map f (listed_by key_after ys)
  unfolding listed_by
  listed_turned ys =
      ap (λ (es : List (List ℕ × X)). map (λ e. e.1) es) (entries_turned ys)
      ∙ values_turned (entries (tree_of key_after ys))

-- Lemmas on the plain table: look-ups by a walk over its entries, and what each change keeps.
use Rattle.std.proofs.Common.{◌≡◌, ◌≢◌, ℕ, suc, ◌+◌, ◌<◌, ◌≤◌, Bool, true, false, not, cond, List}
use Rattle.std.proofs.Common.{[], ◌∷◌, ◌++◌, length, take, drop, get_or, nat_lt, filter, position}
use Rattle.std.proofs.Common.{None, Some, is_some, slice_get, refl, sym, ap, subst, ◌∙◌, arith}
use Rattle.std.specs.Prelude.{All}
use Rattle.std.specs.BTreeMap.Range.{range_contains}
use Rattle.std.specs.Cmp.Lexicographic.{slice_cmp}
use Rattle.std.specs.List.{IsDistinct, find, position_or_len}
use Rattle.std.specs.Map.{keys_of, lookup}
use Rattle.std.specs.Option.{option_map}
use Rattle.std.specs.Ordering.{nat_cmp}
use Rattle.std.specs.Str.{bytes_eq}
use Rattle.std.specs.declared.ops.Bound.TheVariants.{Included}
use Rattle.std.proofs.lemmas.Bool.Decides.{nat_tests}
use Rattle.std.proofs.lemmas.Cmp.{nat_list_eq_equiv}
use Rattle.std.proofs.lemmas.List.{length-append, take_more, drop_more, take-append-drop, take_all}
use Rattle.std.proofs.lemmas.List.{append-nil}
use Rattle.std.proofs.lemmas.List.Elements.{All-nil, All-head, All-tail, All-push, filter-append}
use Rattle.std.proofs.lemmas.List.Folds.{find_at}
use Rattle.std.proofs.lemmas.Map.Keys.{IsDistinct-push}
use Rattle.std.proofs.lemmas.Option.{slice_get_past, slice_get_read}
use Rattle.git_model.specs.ObjectName.{IsObjectName}
use Rattle.tenant_tables.specs.Abbreviation.{Bounds, begins, found_among, only_of}
use Rattle.tenant_tables.specs.declared.found.Found.{Found}
use Rattle.tenant_tables.specs.declared.found.Found.TheVariants as found
use Rattle.tenant_tables.proofs.EntryLemmas.{position-found}
use Rattle.tenant_tables.specs.declared.entry.Entry.{Entry}
use Rattle.tenant_tables.specs.declared.table.TheConstants.{OBJECTS_LIMIT}
use Rattle.pool_tests.specs.PlainTable.{IsList}
use Rattle.tenant_tables.specs.View.{Entries, names, entry_named}
use Rattle.tenant_tables.proofs.FoundLemmas.{any-names, IsDistinct-take, found_many}
use Rattle.tenant_tables.proofs.IndexLemmas.{names-push}
use Rattle.tenant_tables.proofs.TableLemmas.{All-front}
use Rattle.std.proofs.Math.Seq.{take-append_seam}

-- ---- look-ups by a walk

-- the value of the first row that passes
pub lookup-find : {K X : Type 0} (test : K → Bool) (es : List (K × X))
    → option_map (λ e. e.1) (find (λ e. test e.0) es) ≡ lookup test es
lookup-find test [] = refl
lookup-find test (e ∷ es) = by (test e.0) (lookup-find test es)
  where
    by : (b : Bool) → option_map (λ x. x.1) (find (λ x. test x.0) es) ≡ lookup test es
        → option_map (λ x. x.1) (cond b (Some e) (find (λ x. test x.0) es)) ≡ cond b (Some e.1) (lookup test es)
    by true h = refl
    by false h = h

-- the place of the first row that passes
position_or_len-keys : {K X : Type 0} (test : K → Bool) (es : List (K × X))
    → position_or_len (λ e. test e.0) es ≡ position_or_len test (keys_of es)
position_or_len-keys test [] = refl
position_or_len-keys test (e ∷ es) =
    ap (λ n. cond (not (test e.0)) (1 + n) 0) (position_or_len-keys test es)

length-keys : {K X : Type 0} (es : List (K × X)) → length (keys_of es) ≡ length es
length-keys [] = refl
length-keys (e ∷ es) = ap suc (length-keys es)

pub position-keys : {K X : Type 0} (test : K → Bool) (es : List (K × X))
    → position (λ e. test e.0) es ≡ position test (keys_of es)
position-keys test es =
    λ i. cond (nat_lt (position_or_len-keys test es i) (sym (length-keys es) i)) (Some (position_or_len-keys test es i)) None

position-within : {X : Type 0} (p : X → Bool) (xs : List X) (i : ℕ) → position p xs ≡ Some i
    → i < length xs
position-within p xs i h = by (nat_lt (position_or_len p xs) (length xs)) refl h
  where
    by : (b : Bool) → nat_lt (position_or_len p xs) (length xs) ≡ b
        → cond b (Some (position_or_len p xs)) None ≡ Some i → i < length xs
    by true below at =
        let same : position_or_len p xs ≡ i = cc at in grind (arith, nat_tests, below, same)
    by false below lost = cc lost

-- what stands there is what a look-up finds
pub lookup_at : {K X : Type 0} (test : K → Bool) (es : List (K × X)) (i : ℕ) (e : K × X)
    → position (λ x. test x.0) es ≡ Some i → e ≡ get_or es i e
    → lookup test es ≡ Some e.1
lookup_at test es i e at is =
    sym (lookup-find test es)
    ∙ ap (option_map (λ x. x.1))
    (find_at (λ x. test x.0) es ∙ ap (slice_get es) (position-found (λ x. test x.0) es i at)
    ∙ slice_get_read es (length es) i e refl (position-within (λ x. test x.0) es i at) is)

-- and nothing is found where no row passes
pub lookup_none : {K X : Type 0} (test : K → Bool) (es : List (K × X))
    → position (λ x. test x.0) es ≡ None → lookup test es ≡ None
lookup_none test es none =
    sym (lookup-find test es)
    ∙ ap (option_map (λ x. x.1))
    (find_at (λ x. test x.0) es ∙ slice_get_past es (position_or_len (λ x. test x.0) es) past)
  where
    past : length es ≤ position_or_len (λ x. test x.0) es
    past = by (nat_lt (position_or_len (λ x. test x.0) es) (length es)) refl none
      where
        by : (b : Bool) → nat_lt (position_or_len (λ x. test x.0) es) (length es) ≡ b
            → cond b (Some (position_or_len (λ x. test x.0) es)) None ≡ None
            → length es ≤ position_or_len (λ x. test x.0) es
        by true e lost = cc lost
        by false e none = grind (arith, nat_tests, e)

-- ---- names between two

-- the names from the first to the last
abbrev pub lies : List ℕ → List ℕ → List ℕ → Bool
lies first last id = range_contains (slice_cmp nat_cmp) (Included first) (Included last) id

begun : (ds first last : List ℕ) (ids : List (List ℕ)) → Bounds ds first last → All IsObjectName ids
    → filter (lies first last) ids ≡ filter (begins ds) ids
begun ds first last [] bounds h = refl
begun ds first last (id ∷ ids) bounds h =
    let here = bounds.between id (All-head IsObjectName id ids h) in
    let rest = begun ds first last ids bounds (All-tail IsObjectName id ids h) in
    λ i. cond (here i) (id ∷ rest i) (rest i)

-- a walk over all of them
walked : (ds first last : List ℕ) (es : Entries) → Bounds ds first last
    → All IsObjectName (names es)
    → only_of (filter (lies first last) (names es)) ≡ found_among ds (names es)
walked ds first last es bounds named = ap only_of (begun ds first last (names es) bounds named)

pub walked_all : (ds first last : List ℕ) (es : Entries) (n : ℕ) (found : Found)
    → Bounds ds first last → All IsObjectName (names es)
    → length es ≤ n → found ≡ only_of (filter (lies first last) (names (take n es)))
    → found ≡ found_among ds (names es)
walked_all ds first last es n found bounds named past is =
    is ∙ ap (λ fs. only_of (filter (lies first last) (names fs))) (take_all n es past)
    ∙ walked ds first last es bounds named

names-append : (es fs : Entries) → names (es ++ fs) ≡ names es ++ names fs
names-append [] fs = refl
names-append (e ∷ es) fs = ap (λ ids. e.0 ∷ ids) (names-append es fs)

-- a walk that has seen the first i of them
module _ (first last : List ℕ) (es : Entries) (i : ℕ) (e : List ℕ × Entry) (within : i < length es) (here : e ≡ get_or es i e) where
  more : filter (lies first last) (names (take (i + 1) es)) ≡ filter (lies first last) (names (take i es)) ++ cond (lies first last e.0) (e.0 ∷ []) []
  more =
      ap (λ fs. filter (lies first last) (names fs))
      (take_more es i e within ∙ ap (λ x. take i es ++ x ∷ []) (sym here))
      ∙ ap (filter (lies first last)) (names-push (take i es) e.0 e.1)
      ∙ filter-append (lies first last) (names (take i es)) (e.0 ∷ [])

  -- passes the next by
  pub walked_past : lies first last e.0 ≡ false
      → only_of (filter (lies first last) (names (take i es))) ≡ only_of (filter (lies first last) (names (take (i + 1) es)))
  walked_past outside =
      ap only_of
      (sym (more ∙ ap (λ b. filter (lies first last) (names (take i es)) ++ cond b (e.0 ∷ []) []) outside ∙ append-nil _))

  -- finds the first
  pub walked_first : lies first last e.0 ≡ true
      → found.None ≡ only_of (filter (lies first last) (names (take i es)))
      → found.One e.0 ≡ only_of (filter (lies first last) (names (take (i + 1) es)))
  walked_first inside none =
      by (filter (lies first last) (names (take i es))) none
      ∙ ap only_of
      (sym (more ∙ ap (λ b. filter (lies first last) (names (take i es)) ++ cond b (e.0 ∷ []) []) inside))
    where
      by : (ids : List (List ℕ)) → found.None ≡ only_of ids
          → found.One e.0 ≡ only_of (ids ++ e.0 ∷ [])
      by [] h = refl
      by (x ∷ []) h = cc h
      by (x ∷ y ∷ ids) h = cc h

  -- finds a second, which is one too many
  pub walked_second : (ds : List ℕ) → Bounds ds first last → All IsObjectName (names es)
      → lies first last e.0 ≡ true
      → only_of (filter (lies first last) (names (take i es))) ≢ found.None
      → found.Many ≡ found_among ds (names es)
  walked_second ds bounds named inside some =
      sym
      (found_many (lies first last) (names (take i es)) (names (drop (i + 1) es)) e.0 inside some)
      ∙ ap (λ ids. only_of (filter (lies first last) ids)) all
      ∙ walked ds first last es bounds named
    where
      all : names (take i es) ++ e.0 ∷ names (drop (i + 1) es) ≡ names es
      all =
          sym (names-append (take i es) (e ∷ drop (i + 1) es))
          ∙ ap names
          (ap (λ fs. take i es ++ fs) (ap (λ x. x ∷ drop (i + 1) es) here ∙ sym (drop_more es i e within)) ∙ take-append-drop i es)

-- ---- each change

pub IsList-nil : IsList [] 0
unfolding IsDistinct
IsList-nil = record { within = omega arith; limited = omega arith; named = All-nil IsObjectName; distinct = tt }

pub IsList-push : (es : Entries) (committed : ℕ) (id : List ℕ) (e : Entry) → IsList es committed
    → length es < OBJECTS_LIMIT → IsObjectName id
    → entry_named id es ≡ None → IsList (es ++ (id, e) ∷ []) committed
IsList-push es committed id e h spare named none =
    let len = length-append es ((id, e) ∷ []) in record {
      within = let w = h.within in omega (arith, len);
      limited = omega (arith, len);
      named =
          subst (All IsObjectName) (sym (names-push es id e))
          (All-push IsObjectName (names es) id h.named named);
      distinct =
          subst (IsDistinct bytes_eq) (sym (names-push es id e))
          (IsDistinct-push nat_list_eq_equiv (names es) id h.distinct (any-names id es ∙ ap is_some none));
    }

-- all entries but the last
pub IsList-pop : (es : Entries) (committed : ℕ) (x : List ℕ × Entry)
    → IsList (es ++ x ∷ []) committed → committed < length (es ++ x ∷ []) → IsList es committed
IsList-pop es committed x h beyond =
    let len = length-append es (x ∷ []) in record {
      within = omega (arith, len);
      limited = let w = h.limited in omega (arith, len);
      named =
          All-front IsObjectName (names es) x.0
          (subst (All IsObjectName) (names-push es x.0 x.1) h.named);
      distinct =
          subst (IsDistinct bytes_eq) front
          (IsDistinct-take bytes_eq (length (names es)) (names (es ++ x ∷ [])) h.distinct);
    }
  where
    front : take (length (names es)) (names (es ++ x ∷ [])) ≡ names es
    front =
        ap (take (length (names es))) (names-push es x.0 x.1)
        ∙ take-append_seam (names es) (x.0 ∷ [])

-- The summaries of objects are those of a table that has them, and trees that fit have one.
use Rattle.std.proofs.Common.{◌≡◌, ◌≢◌, ℕ, zero, suc, ◌+◌, ◌<◌, Bool, true, false, cond, List, [], ◌∷◌, ◌++◌, length, map, take, Option, None, Some, slice_get, refl, sym, ap, subst, ◌∙◌, arith}
use Rattle.std.specs.Prelude.{IsSome, fold}
use Rattle.std.specs.Map.{lookup}
use Rattle.std.specs.Option.{option_and_then}
use Rattle.std.specs.Str.{bytes_eq}
use Rattle.std.proofs.lemmas.List.{append-nil, append_assoc, map-append}
use Rattle.std.proofs.lemmas.Slice.Eq.{bytes_eq-Decides}
use Rattle.std.proofs.Math.Seq.{take-append_seam}
use Rattle.git_model.specs.declared.kind.Kind.{Kind}
use Rattle.git_model.specs.declared.kind.Kind.TheVariants as kind
use Rattle.git_model.specs.Content.{Content}
use Rattle.git_model.specs.References.{object_at, place_of}
use Rattle.git_model.specs.Repository.{Object, object_named}
use Rattle.git_model.specs.TreeReading.{tree_read}
use Rattle.git_model.proofs.Places.{first_place, later_place, later_object}
use Rattle.content_pool.specs.Pool.{Cells, content}
use Rattle.tenant_tables.specs.declared.entry.Entry.{Entry}
use Rattle.tenant_tables.specs.declared.summary.Summary.{Summary}
use Rattle.tenant_tables.specs.IsBackedBy.{IsBackedBy}
use Rattle.tenant_tables.specs.Objects.{objects}
use Rattle.tenant_tables.specs.SumIn.{NamedSums, content_sum, known_in, plain_sum, sum_by_kind, sum_in, sums_of, with_sum}
use Rattle.tenant_tables.specs.Sums.{Fits, Sums, TreesFit, sum_of_tree, sums_with}
use Rattle.tenant_tables.specs.Summed.{IsSummed, SummedAfter}
use Rattle.tenant_tables.specs.View.{Entries, entry_named, summary_of}
use Rattle.tenant_tables.proofs.PlainSums.{has-plain}

-- ---- the summaries that a table has

abbrev named_sum : List ℕ × Entry → List ℕ × Option Summary
named_sum e = (e.0, e.1.summary)

abbrev table_sums : Entries → NamedSums
table_sums entries = map named_sum entries

known-table : (entries : Entries) (id : List ℕ)
    → known_in (table_sums entries) id ≡ summary_of id entries
unfolding entry_named
known-table [] id = refl
known-table (e ∷ es) id = by (bytes_eq id e.0) (known-table es id)
  where
    by : (b : Bool)
        → option_and_then (λ s. s) (lookup (bytes_eq id) (table_sums es))
        ≡ option_and_then (λ (x : Entry). x.summary) (lookup (bytes_eq id) es)
        → option_and_then (λ s. s) (cond b (Some e.1.summary) (lookup (bytes_eq id) (table_sums es)))
        ≡ option_and_then (λ (x : Entry). x.summary) (cond b (Some e.1) (lookup (bytes_eq id) es))
    by true h = refl
    by false h = h

stands_between : {X : Type 0} (xs : List X) (x : X) (ys : List X)
    → slice_get (xs ++ x ∷ ys) (length xs) ≡ Some x
stands_between [] x ys = refl
stands_between (y ∷ xs) x ys = stands_between xs x ys

summed-between : (pool : Cells) (front : Entries) (e : List ℕ × Entry) (rest : Entries)
    → IsSummed pool (front ++ e ∷ rest) → SummedAfter front (content pool e.1.slot) e.1.summary
unfolding IsSummed
summed-between pool front e rest h =
    subst (λ (es : Entries). SummedAfter es (content pool e.1.slot) e.1.summary)
    (take-append_seam front (e ∷ rest))
    (h (length front) e.0 e.1 (stands_between front e rest))

table-fold : (pool : Cells) (front rest : Entries) → IsSummed pool (front ++ rest)
    → fold with_sum (table_sums front) (objects pool rest) ≡ table_sums (front ++ rest)
unfolding objects
table-fold pool front [] h = ap table_sums (sym (append-nil front))
table-fold pool front (e ∷ rest) h =
    let c : Content = content pool e.1.slot in
    let same : known_in (table_sums front) ≡ (λ id. summary_of id front) =
    λ i id. known-table front id i in
    let sum : content_sum (known_in (table_sums front)) c ≡ e.1.summary =
    ap (λ (known : List ℕ → Option Summary). content_sum known c) same
    ∙ sym (summed-between pool front e rest h).sum in
    let pushed : table_sums front ++ (e.0, content_sum (known_in (table_sums front)) c) ∷ []
    ≡ table_sums (front ++ e ∷ []) =
    ap (λ (s : Option Summary). table_sums front ++ (e.0, s) ∷ []) sum
    ∙ sym (map-append named_sum front (e ∷ [])) in
    let regroup : front ++ e ∷ [] ++ rest ≡ front ++ e ∷ rest = append_assoc front (e ∷ []) rest in
    ap (λ (sums : NamedSums). fold with_sum sums (objects pool rest)) pushed
    ∙ table-fold pool (front ++ e ∷ []) rest (subst (IsSummed pool) (sym regroup) h)
    ∙ ap table_sums regroup

pub table-sums : (digest : List ℕ → List ℕ) (pool : Cells) (entries : Entries)
    → IsBackedBy digest pool entries → (id : List ℕ)
    → summary_of id entries ≡ sum_in (objects pool entries) id
unfolding sum_in sums_of
table-sums digest pool entries stands id =
    sym (known-table entries id)
    ∙ ap (λ (sums : NamedSums). known_in sums id) (sym (table-fold pool [] entries stands.summed))

-- ---- one object more

abbrev or_else : {X : Type 0} → Option X → Option X → Option X
or_else (Some x) o = Some x
or_else None o = o

lookup-pushed : (test : List ℕ → Bool) (named : NamedSums) (key : List ℕ) (v : Option Summary)
    → lookup test (named ++ (key, v) ∷ [])
    ≡ or_else (lookup test named) (cond (test key) (Some v) None)
lookup-pushed test [] key v = refl
lookup-pushed test (n ∷ named) key v = by (test n.0) (lookup-pushed test named key v)
  where
    by : (b : Bool)
        → lookup test (named ++ (key, v) ∷ [])
        ≡ or_else (lookup test named) (cond (test key) (Some v) None)
        → cond b (Some n.1) (lookup test (named ++ (key, v) ∷ []))
        ≡ or_else (cond b (Some n.1) (lookup test named)) (cond (test key) (Some v) None)
    by true h = refl
    by false h = h

or_none : {X : Type 0} (o : Option X) → or_else o None ≡ o
or_none None = refl
or_none (Some x) = refl

same_name : (id key : List ℕ) → bytes_eq id key ≡ true → id ≡ key
same_name id key e = (bytes_eq-Decides id key).0 e

module _ (named : NamedSums) (key : List ℕ) (new : lookup (bytes_eq key) named ≡ None) where
  none-named : (id : List ℕ) → bytes_eq id key ≡ true → lookup (bytes_eq id) named ≡ None
  none-named id e =
      subst (λ (n : List ℕ). lookup (bytes_eq n) named ≡ None) (sym (same_name id key e)) new

  found-pushed : (id : List ℕ) (v : Option Summary) → bytes_eq id key ≡ true
      → lookup (bytes_eq id) (named ++ (key, v) ∷ []) ≡ Some v
  found-pushed id v e =
      lookup-pushed (bytes_eq id) named key v
      ∙ ap (λ (o : Option (Option Summary)). or_else o (cond (bytes_eq id key) (Some v) None)) (none-named id e)
      ∙ ap (λ (b : Bool). cond b (Some v) None) e

  other-pushed : (id : List ℕ) (v : Option Summary) → bytes_eq id key ≡ false
      → lookup (bytes_eq id) (named ++ (key, v) ∷ []) ≡ lookup (bytes_eq id) named
  other-pushed id v e =
      lookup-pushed (bytes_eq id) named key v
      ∙ ap (λ (b : Bool). or_else (lookup (bytes_eq id) named) (cond b (Some v) None)) e
      ∙ or_none (lookup (bytes_eq id) named)

-- ---- trees that fit

abbrev AreApart : List Object → Type 0
AreApart os = (i : ℕ) → i < length os → place_of (object_at i os).id os ≡ i

module _ (o : Object) (os : List Object) (apart : AreApart (o ∷ os)) where
  place_later : (i : ℕ) → i < length os → place_of (object_at i os).id (o ∷ os) ≡ suc i
  place_later i lt =
      subst (λ (x : Object). place_of x.id (o ∷ os) ≡ suc i) (later_object i o os)
      (apart (suc i) (omega arith))

  named-apart : (i : ℕ) → i < length os → bytes_eq (object_at i os).id o.id ≡ false
  named-apart i lt = by (bytes_eq (object_at i os).id o.id) refl
    where
      by : (b : Bool) → bytes_eq (object_at i os).id o.id ≡ b → b ≡ false
      by false e = refl
      by true e =
          let first = first_place (object_at i os).id o os e in
          let later = place_later i lt in
          absurd (omega (arith, first, later))

  rest-apart : AreApart os
  rest-apart i lt =
      let there = later_place (object_at i os).id o os (named-apart i lt) in
      let later = place_later i lt in
      omega (arith, there, later)

-- What is known of the objects so far: the summaries that trees have which fit. The other objects
-- have names of their own.
record Carries (sums : Sums) (named : NamedSums) (rest : List Object) : Type 0 where
  same : (id : List ℕ) → known_in named id ≡ lookup (bytes_eq id) sums
  apart : AreApart rest
  new : (i : ℕ) → i < length rest → lookup (bytes_eq (object_at i rest).id) named ≡ None

module _ (sums : Sums) (named : NamedSums) (bytes : List ℕ)
    (same : (id : List ℕ) → known_in named id ≡ lookup (bytes_eq id) sums) where
  -- a tree that fits has its summary
  fits-sum : (k : Kind) → k ≡ kind.Tree → Fits k bytes sums
      → sum_by_kind k (plain_sum (known_in named) bytes) ≡ Some (sum_of_tree sums (tree_read bytes))
  fits-sum kind.Tree is f =
      let known : known_in named ≡ (λ id. lookup (bytes_eq id) sums) = λ i id. same id i in
      ap (λ (k : List ℕ → Option Summary). plain_sum k bytes) known
      ∙ has-plain (λ id. lookup (bytes_eq id) sums) bytes (sum_of_tree sums (tree_read bytes)) (record {
        text = f.0;
        directories = f.1.directories;
        sum = refl;
        within = f.1.within;
      })
  fits-sum kind.Blob is f = cc is
  fits-sum kind.Commit is f = cc is
  fits-sum kind.Tag is f = cc is

  module _ (key : List ℕ) (new : lookup (bytes_eq key) named ≡ None) where
    value-pushed : (id : List ℕ) (v : Option Summary)
        → known_in (named ++ (key, v) ∷ []) id
        ≡ cond (bytes_eq id key) v (lookup (bytes_eq id) sums)
    value-pushed id v = by (bytes_eq id key) refl
      where
        by : (b : Bool) → bytes_eq id key ≡ b
            → known_in (named ++ (key, v) ∷ []) id ≡ cond b v (lookup (bytes_eq id) sums)
        by true e = ap (option_and_then (λ s. s)) (found-pushed named key new id v e)
        by false e = ap (option_and_then (λ s. s)) (other-pushed named key new id v e) ∙ same id

    none-known : (id : List ℕ)
        → cond (bytes_eq id key) None (lookup (bytes_eq id) sums) ≡ lookup (bytes_eq id) sums
    none-known id = by (bytes_eq id key) refl
      where
        by : (b : Bool) → bytes_eq id key ≡ b
            → cond b None (lookup (bytes_eq id) sums) ≡ lookup (bytes_eq id) sums
        by true e =
            sym (ap (option_and_then (λ s. s)) (none-named named key new id e)) ∙ same id
        by false e = refl

    -- the object of this name keeps both the same
    same-after : (k : Kind) → Fits k bytes sums → (id : List ℕ)
        → known_in (named ++ (key, sum_by_kind k (plain_sum (known_in named) bytes)) ∷ []) id
        ≡ lookup (bytes_eq id) (sums_with k key bytes sums)
    same-after kind.Tree f id =
        value-pushed id (plain_sum (known_in named) bytes)
        ∙ ap (λ (v : Option Summary). cond (bytes_eq id key) v (lookup (bytes_eq id) sums))
        (fits-sum kind.Tree refl f)
    same-after kind.Blob f id = value-pushed id None ∙ none-known id
    same-after kind.Commit f id = value-pushed id None ∙ none-known id
    same-after kind.Tag f id = value-pushed id None ∙ none-known id

first-new : (sums : Sums) (named : NamedSums) (o : Object) (rest : List Object)
    → Carries sums named (o ∷ rest) → lookup (bytes_eq o.id) named ≡ None
unfolding object_at
first-new sums named o rest k = k.new 0 (omega arith)

carried : (sums : Sums) (named : NamedSums) (o : Object) (rest : List Object)
    → Carries sums named (o ∷ rest) → Fits o.content.kind o.content.bytes sums
    → Carries (sums_with o.content.kind o.id o.content.bytes sums) (with_sum named o) rest
carried sums named o rest k f = record {
  same =
      same-after sums named o.content.bytes k.same o.id (first-new sums named o rest k)
      o.content.kind f;
  apart = rest-apart o rest k.apart;
  new =
      λ i lt.
      other-pushed named o.id (first-new sums named o rest k) (object_at i rest).id
      (content_sum (known_in named) o.content) (named-apart o rest k.apart i lt)
      ∙ subst (λ (x : Object). lookup (bytes_eq x.id) named ≡ None) (later_object i o rest)
      (k.new (suc i) (omega arith));
}

-- what is known stays known
stays-known : (id : List ℕ) (s : Summary) (rest : List Object) (named : NamedSums)
    → lookup (bytes_eq id) named ≡ Some (Some s) → IsSome (known_in (fold with_sum named rest) id)
stays-known id s [] named h = rw h refl
stays-known id s (o ∷ rest) named h =
    let v : Option Summary = content_sum (known_in named) o.content in
    stays-known id s rest (with_sum named o)
    (lookup-pushed (bytes_eq id) named o.id v
    ∙ ap (λ (x : Option (Option Summary)). or_else x (cond (bytes_eq id o.id) (Some v) None)) h)

fits-known : (sums : Sums) (named : NamedSums) (rest : List Object) → Carries sums named rest
    → TreesFit sums rest → (id : List ℕ) (c : Content) → object_named id rest ≡ Some c
    → c.kind ≡ kind.Tree → IsSome (known_in (fold with_sum named rest) id)
unfolding object_named
fits-known sums named [] k fit id c h is = cc h
fits-known sums named (o ∷ rest) k fit id c h is =
    by (bytes_eq id o.id) refl h
    (λ there.
    fits-known (sums_with o.content.kind o.id o.content.bytes sums) (with_sum named o) rest
    (carried sums named o rest k fit.0) fit.1 id c there is)
  where
    here : bytes_eq id o.id ≡ true → Some o.content ≡ Some c
        → IsSome (known_in (fold with_sum (with_sum named o) rest) id)
    here e same =
        let content : o.content ≡ c = cc same in
        let tree : o.content.kind ≡ kind.Tree = ap (λ (x : Content). x.kind) content ∙ is in
        stays-known id (sum_of_tree sums (tree_read o.content.bytes)) rest (with_sum named o)
        (found-pushed named o.id (first-new sums named o rest k) id (content_sum (known_in named) o.content) e
        ∙ ap (λ (v : Option Summary). Some v) (fits-sum sums named o.content.bytes k.same o.content.kind tree fit.0))

    by : (b : Bool) → bytes_eq id o.id ≡ b → cond b (Some o.content) (object_named id rest) ≡ Some c
        → (object_named id rest ≡ Some c → IsSome (known_in (fold with_sum (with_sum named o) rest) id))
        → IsSome (known_in (fold with_sum (with_sum named o) rest) id)
    by true e same later = here e same
    by false e there later = later there

pub fitting-known : (os : List Object) → TreesFit [] os → AreApart os → (id : List ℕ) (c : Content)
    → object_named id os ≡ Some c → c.kind ≡ kind.Tree → IsSome (sum_in os id)
unfolding sum_in sums_of
fitting-known os fit apart id c h is =
    fits-known [] [] os (record { same = λ n. refl; apart = apart; new = λ i lt. refl }) fit id c h is

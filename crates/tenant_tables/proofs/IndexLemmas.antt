-- The ordered index of names, kept through each change.
use Rattle.std.proofs.Common.{◌≡◌, ℕ, Bool, true, false, cond, List, [], ◌∷◌, ◌++◌, length, take, drop, Option, None, Some, refl, sym, ap, subst, ◌∙◌, arith}
use Rattle.std.specs.Prelude.{All}
use Rattle.std.specs.List.{IsDistinct}
use Rattle.std.specs.Map.{lookup}
use Rattle.std.specs.Str.{bytes_eq}
use Rattle.std.proofs.lemmas.List.{length-append, length-take-le, take-append-le, drop-append-le, take-append-drop, take_all, drop_all, take-map, map-append}
use Rattle.std.proofs.lemmas.List.Elements.{All-nil, All-push, All-take}
use Rattle.std.proofs.lemmas.List.Sorted.{IsPermutation-refl, IsPermutation-sym, IsPermutation-trans, IsPermutation-append, IsPermutation-append_left}
use Rattle.git_model.specs.ObjectName.{IsObjectName}
use Rattle.name_index.specs.Index.{View, Reorders}
use Rattle.tenant_tables.specs.declared.entry.Entry.{Entry}
use Rattle.tenant_tables.specs.Index.{IsIndexed}
use Rattle.tenant_tables.specs.View.{Entries, names, entry_named}
use Rattle.tenant_tables.proofs.FoundLemmas.{IsDistinct-take}

-- an empty list
pub IsIndexed-nil : (index : View) → index.committed ≡ [] → index.added ≡ [] → IsIndexed [] index 0
unfolding IsDistinct
IsIndexed-nil index none fresh = record {
  within = omega arith;
  named = All-nil IsObjectName;
  distinct = tt;
  first = rw none (IsPermutation-refl []);
  after = rw fresh (IsPermutation-refl []);
}

-- the look-up of a name, with one entry more
abbrev pub later : {X : Type 0} → Option X → Option X → Option X
later (Some x) o = Some x
later None o = o

pub entry_named-push : (q : List ℕ) (es : Entries) (id : List ℕ) (e : Entry)
    → entry_named q (es ++ (id, e) ∷ [])
    ≡ later (entry_named q es) (cond (bytes_eq q id) (Some e) None)
unfolding entry_named
entry_named-push q [] id e = refl
entry_named-push q (x ∷ es) id e = by (bytes_eq q x.0) (entry_named-push q es id e)
  where
    by : (b : Bool)
        → lookup (bytes_eq q) (es ++ (id, e) ∷ [])
        ≡ later (lookup (bytes_eq q) es) (cond (bytes_eq q id) (Some e) None)
        → cond b (Some x.1) (lookup (bytes_eq q) (es ++ (id, e) ∷ []))
        ≡ later (cond b (Some x.1) (lookup (bytes_eq q) es)) (cond (bytes_eq q id) (Some e) None)
    by true h = refl
    by false h = h

pub names-push : (es : Entries) (id : List ℕ) (e : Entry)
    → names (es ++ (id, e) ∷ []) ≡ names es ++ id ∷ []
names-push [] id e = refl
names-push (x ∷ es) id e = ap (λ ns. x.0 ∷ ns) (names-push es id e)

-- the names in another order
pub IsIndexed-reordered : (es : Entries) (old new : View) (committed : ℕ)
    → IsIndexed es old committed → Reorders old new → IsIndexed es new committed
IsIndexed-reordered es old new committed h r = record {
  within = h.within;
  named = h.named;
  distinct = h.distinct;
  first =
      IsPermutation-trans _ _ _ (IsPermutation-sym old.committed new.committed r.committed) h.first;
  after = IsPermutation-trans _ _ _ (IsPermutation-sym old.added new.added r.added) h.after;
}

-- a name more in both
pub IsIndexed-push : (es : Entries) (old new : View) (committed : ℕ) (id : List ℕ) (e : Entry)
    → IsIndexed es old committed → IsObjectName id
    → new.committed ≡ old.committed → new.added ≡ old.added ++ id ∷ []
    → IsDistinct bytes_eq (names (es ++ (id, e) ∷ []))
    → IsIndexed (es ++ (id, e) ∷ []) new committed
IsIndexed-push es old new committed id e h named same more distinct =
    let len = length-append es ((id, e) ∷ []) in
    let within = h.within in
    let front = take-append-le committed es ((id, e) ∷ []) within in
    let back = drop-append-le committed es ((id, e) ∷ []) within in record {
      within = omega (arith, len, within);
      named =
          subst (All IsObjectName) (sym (names-push es id e))
          (All-push IsObjectName (names es) id h.named named);
      distinct = distinct;
      first = rw (front, same) h.first;
      after =
          rw (back, names-push (drop committed es) id e, more)
          (IsPermutation-append_left (id ∷ []) old.added (names (drop committed es)) h.after);
    }

-- all entries are committed
pub IsIndexed-commit : (es : Entries) (old new : View) (committed : ℕ)
    → IsIndexed es old committed
    → new.committed ≡ old.committed ++ old.added → new.added ≡ []
    → IsIndexed es new (length es)
IsIndexed-commit es old new committed h all none =
    let whole : take (length es) es ≡ take committed es ++ drop committed es =
    take_all (length es) es (omega arith) ∙ sym (take-append-drop committed es) in
    let rest : drop (length es) es ≡ [] = drop_all (length es) es (omega arith) in record {
      within = omega arith;
      named = h.named;
      distinct = h.distinct;
      first =
          rw (whole, map-append (λ (x : List ℕ × Entry). x.0) (take committed es) (drop committed es), all)
          (IsPermutation-append old.committed (names (take committed es)) old.added (names (drop committed es)) h.first h.after);
      after = rw (rest, none) (IsPermutation-refl []);
    }

-- only the committed entries stay
pub IsIndexed-roll_back : (es : Entries) (old new : View) (committed : ℕ)
    → IsIndexed es old committed
    → new.committed ≡ old.committed → new.added ≡ [] → IsIndexed (take committed es) new committed
IsIndexed-roll_back es old new committed h same none =
    let len = length-take-le committed es h.within in
    let names_are = take-map (λ (x : List ℕ × Entry). x.0) committed es in
    let rest : drop committed (take committed es) ≡ [] =
    drop_all committed (take committed es) (omega (arith, len)) in
    let front : take committed (take committed es) ≡ take committed es =
    take_all committed (take committed es) (omega (arith, len)) in record {
      within = omega (arith, len);
      named = subst (All IsObjectName) names_are (All-take IsObjectName committed (names es) h.named);
      distinct =
          subst (IsDistinct bytes_eq) names_are (IsDistinct-take bytes_eq committed (names es) h.distinct);
      first = rw (front, same) h.first;
      after = rw (rest, none) (IsPermutation-refl []);
    }

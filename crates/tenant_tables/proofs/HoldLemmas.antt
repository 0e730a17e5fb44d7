-- How often entries hold a slot, and what stays with the contents that they hold.
use Rattle.std.proofs.Common.{◌≡◌, ℕ, zero, suc, ◌+◌, ◌<◌, ◌≤◌, ◌==◌, inl, inr, Bool, true, false, cond, List, [], ◌∷◌, ◌++◌, length, None, Some, slice_get, refl, sym, ap, subst, ◌∙◌, arith}
use Rattle.std.specs.Prelude.{All}
use Rattle.std.specs.Map.{lookup}
use Rattle.std.specs.Str.{bytes_eq}
use Rattle.std.specs.Option.{option_map}
use Rattle.std.proofs.lemmas.Bool.{cases_eq}
use Rattle.std.proofs.lemmas.Bool.Decides.{nat_tests}
use Rattle.std.proofs.lemmas.List.Elements.{All-nil, All-cons, All-head, All-tail}
use Rattle.std.proofs.lemmas.List.Sums.{sum_by-cons, sum_by_push}
use Rattle.std.proofs.lemmas.Slice.Eq.{bytes_eq-Decides}
use Rattle.git_model.specs.Content.{Content, name_by}
use Rattle.content_pool.specs.Pool.{Cells, content}
use Rattle.tenant_tables.specs.declared.entry.Entry.{Entry}
use Rattle.tenant_tables.specs.declared.table.TheConstants.{CONTENTS_LIMIT}
use Rattle.tenant_tables.specs.View.{Entries, entry_named, held}
use Rattle.git_model.specs.Repository.{object_named}
use Rattle.tenant_tables.specs.Objects.{objects}

-- one entry more holds its slot once more
pub held-push : (es : Entries) (id : List ℕ) (e : Entry) (s : ℕ)
    → held (es ++ (id, e) ∷ []) s ≡ held es s + cond (e.slot == s) 1 0
unfolding held
held-push es id e s = sum_by_push (λ (x : List ℕ × Entry). cond (x.1.slot == s) 1 0) es (id, e)

-- the first entry, and the others
pub held-cons : (x : List ℕ × Entry) (es : Entries) (s : ℕ)
    → held (x ∷ es) s ≡ cond (x.1.slot == s) 1 0 + held es s
unfolding held
held-cons x es s = sum_by-cons (λ (y : List ℕ × Entry). cond (y.1.slot == s) 1 0) x es

pub held-nil : (s : ℕ) → held [] s ≡ 0
unfolding held
held-nil s = refl

pub held-head : (x : List ℕ × Entry) (es : Entries) → 0 < held (x ∷ es) x.1.slot
held-head x es = rw (held-cons x es x.1.slot) (grind (arith, nat_tests))

pub held-tail : (x : List ℕ × Entry) (es : Entries) (s : ℕ) → held es s ≤ held (x ∷ es) s
held-tail x es s = rw (held-cons x es s) (omega arith)

-- an entry holds its slot
pub held-at : (es : Entries) (i : ℕ) (id : List ℕ) (e : Entry) → slice_get es i ≡ Some (id, e)
    → 0 < held es e.slot
held-at [] i id e h = cc h
held-at (x ∷ es) zero id e h =
    let same : x ≡ (id, e) = cc h in
    subst (λ (y : List ℕ × Entry). 0 < held (x ∷ es) y.1.slot) same (held-head x es)
held-at (x ∷ es) (suc i) id e h =
    let rest = held-at es i id e h in omega (arith, held-tail x es e.slot)

-- the slots that entries hold have the same contents in both pools
pub record Keeps (before after : Cells) (es : Entries) : Type 0 where
  pub contents : (s : ℕ) → 0 < held es s → content after s ≡ content before s

Keeps-tail : (p q : Cells) (x : List ℕ × Entry) (es : Entries) → Keeps p q (x ∷ es) → Keeps p q es
Keeps-tail p q x es k = record { contents = λ s h. k.contents s (let t = held-tail x es s in omega arith) }

-- so the entries stand for the same objects
pub objects-kept : (p q : Cells) (es : Entries) → Keeps p q es → objects q es ≡ objects p es
unfolding objects
objects-kept p q [] k = refl
objects-kept p q (x ∷ es) k =
    let here : content q x.1.slot ≡ content p x.1.slot = k.contents x.1.slot (held-head x es) in
    let rest = objects-kept p q es (Keeps-tail p q x es k) in
    λ i. record { id = x.0; content = here i } ∷ rest i

-- an entry has the object name of the content in its slot
abbrev pub IsNamed : (List ℕ → List ℕ) → Cells → List ℕ × Entry → Type 0
IsNamed digest p x = x.0 ≡ name_by digest (content p x.1.slot)

-- and are named by them
pub named-kept : (digest : List ℕ → List ℕ) (p q : Cells) (es : Entries) → Keeps p q es
    → All (IsNamed digest p) es → All (IsNamed digest q) es
named-kept digest p q [] k h = All-nil (IsNamed digest q)
named-kept digest p q (x ∷ es) k h =
    All-cons (IsNamed digest q) x es
    (All-head (IsNamed digest p) x es h ∙ ap (name_by digest) (sym (k.contents x.1.slot (held-head x es))))
    (named-kept digest p q es (Keeps-tail p q x es k) (All-tail (IsNamed digest p) x es h))

-- and are no longer
abbrev pub IsShort : Cells → List ℕ × Entry → Type 0
IsShort p e = length (content p e.1.slot).bytes ≤ CONTENTS_LIMIT

pub short-kept : (p q : Cells) (es : Entries) → Keeps p q es → All (IsShort p) es
    → All (IsShort q) es
short-kept p q [] k h = All-nil (IsShort q)
short-kept p q (x ∷ es) k h =
    All-cons (IsShort q) x es
    (subst (λ (c : Content). length c.bytes ≤ CONTENTS_LIMIT) (sym (k.contents x.1.slot (held-head x es))) (All-head (IsShort p) x es h))
    (short-kept p q es (Keeps-tail p q x es k) (All-tail (IsShort p) x es h))

-- the look-up of a name goes by the first entry, and then by the others
named_first : (id : List ℕ) (x : List ℕ × Entry) (es : Entries) → id ≡ x.0
    → entry_named id (x ∷ es) ≡ Some x.1
unfolding entry_named
named_first id x es e = rw ((bytes_eq-Decides id x.0).1 e) refl

named_later : (id : List ℕ) (x : List ℕ × Entry) (es : Entries) → entry_named id (x ∷ es) ≡ None
    → entry_named id es ≡ None
unfolding entry_named
named_later id x es h = by (bytes_eq id x.0) h
  where
    by : (b : Bool) → cond b (Some x.1) (lookup (bytes_eq id) es) ≡ None
        → lookup (bytes_eq id) es ≡ None
    by true e = cc e
    by false e = e

-- no entry is in a slot whose content's name has no entry
pub held-absent : (digest : List ℕ → List ℕ) (p : Cells) (es : Entries) (id : List ℕ) (s : ℕ)
    → All (IsNamed digest p) es
    → entry_named id es ≡ None → id ≡ name_by digest (content p s) → held es s ≡ 0
held-absent digest p [] id s h none e = held-nil s
held-absent digest p (x ∷ es) id s h none e =
    let rest =
    held-absent digest p es id s (All-tail (IsNamed digest p) x es h)
    (named_later id x es none) e in
    elim (cases_eq x.1.slot s) [
      | inl here ↦
          let named : x.0 ≡ name_by digest (content p x.1.slot) =
          All-head (IsNamed digest p) x es h in
          let there : id ≡ x.0 =
          e ∙ ap (λ (t : ℕ). name_by digest (content p t)) (sym here) ∙ sym named in
          let some = named_first id x es there in
          let no : Some x.1 ≡ None = sym some ∙ none in
          cc no
      | inr other ↦ rw (held-cons x es s) (grind (arith, nat_tests, rest))
    ]

-- the look-up among objects is that among entries
pub object_named-objects : (p : Cells) (id : List ℕ) (es : Entries)
    → object_named id (objects p es) ≡ option_map (λ e. content p e.slot) (entry_named id es)
unfolding objects object_named entry_named
object_named-objects p id [] = refl
object_named-objects p id (x ∷ es) = by (bytes_eq id x.0) (object_named-objects p id es)
  where
    by : (b : Bool)
        → object_named id (objects p es) ≡ option_map (λ e. content p e.slot) (entry_named id es)
        → cond b (Some (content p x.1.slot)) (object_named id (objects p es))
        ≡ option_map (λ e. content p e.slot) (cond b (Some x.1) (lookup (bytes_eq id) es))
    by true h = refl
    by false h = h

-- What `add` answers and does, by what it finds.
use Rattle.std.proofs.Common.{◌≡◌, ℕ, ◌<◌, ◌≤◌, Bool, true, false, cond, List, [], ◌∷◌, ◌++◌, length, slice_get, take, Option, None, Some, is_some, refl, sym, ap, subst, ◌∙◌, arith}
use Rattle.std.specs.Prelude.{nat_lt, nat_le, if◌then◌else◌}
use Rattle.std.specs.Option.{option_map, option_map_or, option_and_then, unwrap_or}
use Rattle.std.specs.Str.{bytes_eq}
use Rattle.std.proofs.lemmas.Bool.{and_parts}
use Rattle.std.proofs.lemmas.Bool.Decides.{nat_tests}
use Rattle.std.proofs.lemmas.Slice.Eq.{bytes_eq-Decides}
use Rattle.git_model.specs.Content.{Content, name_by}
use Rattle.content_pool.specs.Pool.{Cells, content, IsLive}
use Rattle.git_model.specs.Kind.{kind_word}
use Rattle.git_model.specs.TagReading.{kind_named_by}
use Rattle.git_model.proofs.TagReadings.{kind_back}
use Rattle.git_model.specs.declared.kind.Kind.{Kind}
use Rattle.git_model.specs.declared.kind.Kind.TheVariants.{Commit, Tree, Blob, Tag}
use Rattle.git_model.specs.contracts.kind.Kind.{the_type}
use denote.Enum.Bare.{sameb}
use Rattle.std.proofs.lemmas.Map.Entries.{place_from_lookup}
use Rattle.git_model.specs.Content.{same_content}
use Rattle.tenant_tables.specs.declared.table.TheConstants.{CONTENTS_LIMIT, OBJECTS_LIMIT}
use Rattle.tenant_tables.specs.declared.fault.Fault.{Fault}
use Rattle.tenant_tables.specs.declared.fault.Fault.TheVariants.{Limit, NameCollision}
use Rattle.tenant_tables.specs.declared.entry.Entry.{Entry}
use Rattle.tenant_tables.specs.declared.summary.Summary.{Summary}
use Rattle.tenant_tables.specs.View.{View, Entries, entry_named, slot_of, summary_of, held}
use Rattle.git_model.specs.Repository.{Object, object_named}
use Rattle.tenant_tables.specs.Objects.{objects}
use Rattle.tenant_tables.specs.IsBackedBy.{IsBackedBy, PreservesOthers}
use Rattle.tenant_tables.specs.Summed.{SummedAfter, IsSummed}
use Rattle.tenant_tables.specs.Adding.{store_fault, PushesAt, Adds}
use Rattle.tenant_tables.proofs.HoldLemmas.{object_named-objects, objects-kept, held-at}
use Rattle.tenant_tables.proofs.TableLemmas.{IsBackedBy-put, PreservesOthers-put, Keeps-put}
use Rattle.tenant_tables.proofs.SummaryLemmas.{SummedAfter-same}
use Rattle.tenant_tables.proofs.IndexLemmas.{entry_named-push, later}

-- ---- what is found

pub found_none : (p : Cells) (id : List ℕ) (es : Entries) → None ≡ slot_of id es
    → object_named id (objects p es) ≡ None
found_none p id es h = object_named-objects p id es ∙ by (entry_named id es) h
  where
    by : (o : Option Entry) → None ≡ option_map (λ e. e.slot) o
        → option_map (λ e. content p e.slot) o ≡ None
    by None e = refl
    by (Some f) e = cc e

pub found_some : (p : Cells) (id : List ℕ) (es : Entries) (s : ℕ) → Some s ≡ slot_of id es
    → object_named id (objects p es) ≡ Some (content p s)
found_some p id es s h = object_named-objects p id es ∙ by (entry_named id es) h
  where
    by : (o : Option Entry) → Some s ≡ option_map (λ e. e.slot) o
        → option_map (λ e. content p e.slot) o ≡ Some (content p s)
    by None e = cc e
    by (Some f) e = let at : s ≡ f.slot = cc e in rw at refl

pub found_entry : (id : List ℕ) (es : Entries) (s : ℕ) → Some s ≡ slot_of id es
    → (e : Entry) × (entry_named id es ≡ Some e) × (e.slot ≡ s)
found_entry id es s h = by (entry_named id es) h
  where
    by : (o : Option Entry) → Some s ≡ option_map (λ e. e.slot) o
        → (e : Entry) × (o ≡ Some e) × (e.slot ≡ s)
    by None e = cc e
    by (Some f) e = (f, refl, cc e)

pub found_held : (id : List ℕ) (es : Entries) (e : Entry) → entry_named id es ≡ Some e
    → 0 < held es e.slot
unfolding entry_named
found_held id es e h =
    let at = place_from_lookup (bytes_eq id) es e h in held-at es at.0 at.1 e at.2

-- the slot that is found is live
pub found_live : (digest : List ℕ → List ℕ) (p : Cells) (id : List ℕ) (es : Entries) (s : ℕ)
    → IsBackedBy digest p es → Some s ≡ slot_of id es → IsLive p s
found_live digest p id es s stands h =
    let at = found_entry id es s h in
    let n = stands.counted at.0.slot in
    let m = found_held id es at.0 at.1 in
    subst (IsLive p) at.2 (omega arith)

-- kinds are told by their words
pub same_kind : (a b : Kind) → sameb the_type a b ≡ bytes_eq (kind_word a) (kind_word b)
same_kind Commit Commit = refl
same_kind Commit Tree = refl
same_kind Commit Blob = refl
same_kind Commit Tag = refl
same_kind Tree Commit = refl
same_kind Tree Tree = refl
same_kind Tree Blob = refl
same_kind Tree Tag = refl
same_kind Blob Commit = refl
same_kind Blob Tree = refl
same_kind Blob Blob = refl
same_kind Blob Tag = refl
same_kind Tag Commit = refl
same_kind Tag Tree = refl
same_kind Tag Blob = refl
same_kind Tag Tag = refl

-- ---- the answer

-- the fault by the three tests: the contents are too long; whether the object of the name has this
-- content; the table is full
abbrev pub fault_by : Bool → Option Bool → Bool → Option Fault
fault_by long there full =
    if long then Some Limit else if unwrap_or there false then None else if full then Some Limit
    else if is_some there then Some NameCollision else None

pub store_fault-by : (id : List ℕ) (c : Content) (os : List Object) (there : Option Bool)
    → there ≡ option_map (same_content c) (object_named id os)
    → store_fault id c os
    ≡ fault_by (nat_lt CONTENTS_LIMIT (length c.bytes)) there (nat_le OBJECTS_LIMIT (length os))
unfolding store_fault
store_fault-by id c os there is = rw is (by (object_named id os))
  where
    by : (o : Option Content)
        → cond (nat_lt CONTENTS_LIMIT (length c.bytes)) (Some Limit) (cond (option_map_or (same_content c) o false) None
        (cond (nat_le OBJECTS_LIMIT (length os)) (Some Limit) (cond (is_some o) (Some NameCollision) None)))
        ≡ fault_by (nat_lt CONTENTS_LIMIT (length c.bytes)) (option_map (same_content c) o)
        (nat_le OBJECTS_LIMIT (length os))
    by None = refl
    by (Some d) = refl

module _ (id : List ℕ) (c : Content) (os : List Object) (there : Option Bool)
    (is : there ≡ option_map (same_content c) (object_named id os)) where
  by_tests : length c.bytes ≤ CONTENTS_LIMIT
      → store_fault id c os ≡ fault_by false there (nat_le OBJECTS_LIMIT (length os))
  by_tests fits =
      let short : nat_lt CONTENTS_LIMIT (length c.bytes) ≡ false = grind (arith, nat_tests) in
      store_fault-by id c os there is
      ∙ ap (λ (b : Bool). fault_by b there (nat_le OBJECTS_LIMIT (length os))) short

  pub fault-found : length c.bytes ≤ CONTENTS_LIMIT → unwrap_or there false ≡ true
      → store_fault id c os ≡ None
  fault-found fits found = by_tests fits ∙ rw found refl

  pub fault-full : length c.bytes ≤ CONTENTS_LIMIT → unwrap_or there false ≡ false → (n : ℕ)
      → length os ≡ n → nat_le OBJECTS_LIMIT n ≡ true
      → store_fault id c os ≡ Some Limit
  fault-full fits lost n size full = by_tests fits ∙ rw (lost, size, full) refl

  pub fault-clash : length c.bytes ≤ CONTENTS_LIMIT → unwrap_or there false ≡ false → (n : ℕ)
      → length os ≡ n → nat_le OBJECTS_LIMIT n ≡ false
      → is_some there ≡ true → store_fault id c os ≡ Some NameCollision
  fault-clash fits lost n size room taken = by_tests fits ∙ rw (lost, size, room, taken) refl

  pub fault-none : length c.bytes ≤ CONTENTS_LIMIT → unwrap_or there false ≡ false → (n : ℕ)
      → length os ≡ n → nat_le OBJECTS_LIMIT n ≡ false
      → is_some there ≡ false → store_fault id c os ≡ None
  fault-none fits lost n size room free = by_tests fits ∙ rw (lost, size, room, free) refl

  -- where nothing is there, there is no such object
  pub no_object : is_some there ≡ false → object_named id os ≡ None
  no_object free = none-from_map (object_named id os) (rw is at free)
    where
      none-from_map : (o : Option Content) → is_some (option_map (same_content c) o) ≡ false
          → o ≡ None
      none-from_map None h = refl
      none-from_map (Some d) h = cc h

-- contents that are too long
pub fault-long : (id : List ℕ) (c : Content) (os : List Object) → CONTENTS_LIMIT < length c.bytes
    → store_fault id c os ≡ Some Limit
fault-long id c os above =
    let long : nat_lt CONTENTS_LIMIT (length c.bytes) ≡ true = grind (arith, nat_tests) in
    store_fault-by id c os _ refl ∙ rw long refl

-- ---- an object more

later-none : (o : Option Entry) → later o None ≡ o
later-none (Some f) = refl
later-none None = refl

pub no_entry : (p : Cells) (id : List ℕ) (es : Entries) → object_named id (objects p es) ≡ None
    → entry_named id es ≡ None
no_entry p id es h = by (entry_named id es) (sym (object_named-objects p id es) ∙ h)
  where
    by : (o : Option Entry) → option_map (λ e. content p e.slot) o ≡ None → o ≡ None
    by None e = refl
    by (Some f) e = cc e

objects-push : (p : Cells) (es : Entries) (id : List ℕ) (e : Entry)
    → objects p (es ++ (id, e) ∷ [])
    ≡ objects p es ++ record { id = id; content = content p e.slot } ∷ []
unfolding objects
objects-push p [] id e = refl
objects-push p (x ∷ es) id e =
    ap (λ (os : List Object). record { id = x.0; content = content p x.1.slot } ∷ os)
    (objects-push p es id e)

summary_of-push : (q : List ℕ) (es : Entries) (id : List ℕ) (e : Entry) → entry_named id es ≡ None
    → summary_of q (es ++ (id, e) ∷ []) ≡ cond (bytes_eq q id) e.summary (summary_of q es)
summary_of-push q es id e none =
    ap (option_and_then (λ (f : Entry). f.summary)) (entry_named-push q es id e)
    ∙ by (bytes_eq q id) refl
  where
    at : bytes_eq q id ≡ true → entry_named q es ≡ None
    at same = let is : q ≡ id = (bytes_eq-Decides q id).0 same in rw is none

    by : (b : Bool) → bytes_eq q id ≡ b
        → option_and_then (λ f. f.summary) (later (entry_named q es) (cond b (Some e) None))
        ≡ cond b e.summary (option_and_then (λ f. f.summary) (entry_named q es))
    by true same = rw (at same) refl
    by false other = ap (option_and_then (λ (f : Entry). f.summary)) (later-none (entry_named q es))

pub record Pushed (digest : List ℕ → List ℕ) (c : Content) (summary : Option Summary) (p : Cells)
    (old : View) (q : Cells) (new : View) : Type 0 where
  pub stands : IsBackedBy digest q new.entries
  pub others : PreservesOthers p old.entries q new.entries
  pub adds : Adds digest c summary p old q new

pub pushed : (digest : List ℕ → List ℕ) (id : List ℕ) (c : Content) (summary : Option Summary)
    (p : Cells) (old : View) (q : Cells) (new : View) (slot : ℕ)
    → PushesAt id c summary p old q new slot → id ≡ name_by digest c
    → entry_named id old.entries ≡ None → IsBackedBy digest p old.entries
    → SummedAfter old.entries c summary → length c.bytes ≤ CONTENTS_LIMIT
    → Pushed digest c summary p old q new
pushed digest id c summary p old q new slot h named none stands summed within = record {
  stands =
      rw is (IsBackedBy-put digest p q old.entries id added c stands h.puts named none summed within);
  others = rw is (PreservesOthers-put p q old.entries id added c h.puts);
  adds = record {
    objects =
        rw (is, ← named) (objects-push q old.entries id added ∙ same
        ∙ ap (λ (o : Option Content). cond (is_some o) (objects p old.entries) (objects p old.entries ++ record { id = id; content = c } ∷ [])) (sym absent));
    committed = ap (λ (v : View). v.committed) h.entries;
    summaries = λ jd. rw (is, ← named) (summary_of-push jd old.entries id added none);
  };
}
  where
    added : Entry
    added = record { slot = slot; summary = summary }

    is : new.entries ≡ old.entries ++ (id, added) ∷ []
    is = ap (λ (v : View). v.entries) h.entries

    absent : object_named id (objects p old.entries) ≡ None
    absent =
        object_named-objects p id old.entries
        ∙ ap (option_map (λ (e : Entry). content p e.slot)) none

    same : objects q old.entries ++ record { id = id; content = content q slot } ∷ [] ≡ objects p old.entries ++ record { id = id; content = c } ∷ []
    same =
        let kept =
        objects-kept p q old.entries (Keeps-put p q slot c old.entries h.puts stands.counted) in
        λ i. kept i ++ record { id = id; content = h.puts.has i } ∷ []

-- ---- an object that is there

kinds : (a b : Kind) → bytes_eq (kind_word a) (kind_word b) ≡ true → a ≡ b
kinds a b h =
    sym (kind_back a) ∙ ap kind_named_by ((bytes_eq-Decides (kind_word a) (kind_word b)).0 h) ∙ kind_back b

contents : (c d : Content) → same_content c d ≡ true → c ≡ d
contents c d h =
    let parts =
    and_parts (bytes_eq (kind_word c.kind) (kind_word d.kind)) (bytes_eq c.bytes d.bytes) h in
    let kind = kinds c.kind d.kind parts.0 in
    let bytes = (bytes_eq-Decides c.bytes d.bytes).0 parts.1 in
    λ i. record { kind = kind i; bytes = bytes i }

there_is : (p : Cells) (id : List ℕ) (es : Entries) (c : Content) (there : Option Bool)
    → there ≡ option_map (same_content c) (object_named id (objects p es))
    → unwrap_or there false ≡ true
    → (e : Entry) × (entry_named id es ≡ Some e) × (c ≡ content p e.slot)
there_is p id es c there is h =
    by (entry_named id es) refl
    (sym (ap (λ (o : Option Bool). unwrap_or o false) (is ∙ ap (option_map (same_content c)) (object_named-objects p id es))) ∙ h)
  where
    by : (o : Option Entry) → entry_named id es ≡ o
        → unwrap_or (option_map (same_content c) (option_map (λ e. content p e.slot) o)) false
        ≡ true
        → (e : Entry) × (entry_named id es ≡ Some e) × (c ≡ content p e.slot)
    by None at lost = cc lost
    by (Some e) at same = (e, at, contents c (content p e.slot) same)

pub found_adds : (digest : List ℕ → List ℕ) (id : List ℕ) (c : Content) (summary : Option Summary)
    (p : Cells) (old : View) (there : Option Bool)
    → there ≡ option_map (same_content c) (object_named id (objects p old.entries))
    → unwrap_or there false ≡ true → id ≡ name_by digest c
    → IsBackedBy digest p old.entries → SummedAfter old.entries c summary
    → Adds digest c summary p old p old
unfolding entry_named IsSummed
found_adds digest id c summary p old there is found named stands summed = record {
  objects = rw (← named) (rw some refl);
  committed = refl;
  summaries = λ q. rw (← named) (by q (bytes_eq q id) refl);
}
  where
    at : (e : Entry) × (entry_named id old.entries ≡ Some e) × (c ≡ content p e.slot)
    at = there_is p id old.entries c there is found

    some : is_some (object_named id (objects p old.entries)) ≡ true
    some =
        ap is_some
        (object_named-objects p id old.entries ∙ ap (option_map (λ (e : Entry). content p e.slot)) at.1)

    place : (i : ℕ) × (k : List ℕ) × (slice_get old.entries i ≡ Some (k, at.0))
        × (bytes_eq id k ≡ true)
    place = place_from_lookup (bytes_eq id) old.entries at.0 at.1

    same : at.0.summary ≡ summary
    same =
        SummedAfter-same place.0 old.entries c at.0.summary summary
        (subst (λ (d : Content). SummedAfter (take place.0 old.entries) d at.0.summary) (sym at.2) (stands.summed place.0 place.1 at.0 place.2)) summed

    by : (q : List ℕ) (b : Bool) → bytes_eq q id ≡ b
        → summary_of q old.entries ≡ cond b summary (summary_of q old.entries)
    by q true e =
        let is_id : q ≡ id = (bytes_eq-Decides q id).0 e in
        rw (is_id, at.1) same
    by q false e = refl

-- The objects at some places of a table, added to an empty one in turn.
use Rattle.std.proofs.Common.{◌≡◌, ◌≢◌, ℕ, zero, suc, ◌+◌, ◌-◌, ◌<◌, ◌≤◌, Bool, true, false, cond, nat_lt, List, [], ◌∷◌, ◌++◌, length, take, get_or, slice_get, map, All, Option, Some, None, Result, Ok, Err, refl, sym, ap, subst, ◌∙◌, inl, inr, arith}
use Rattle.std.specs.Prelude.{IfOk, IsSome, IsSomeAnd, fold, is_some}
use Rattle.std.specs.List.{AllByRecursion, IsDistinct}
use Rattle.std.specs.Option.{option_and_then, option_map, unwrap_or}
use Rattle.std.specs.Str.{bytes_eq}
use Rattle.std.proofs.lemmas.Bool.{cases_Bool, cases_eq}
use Rattle.std.proofs.lemmas.Cmp.{nat_list_eq_equiv}
use Rattle.std.proofs.lemmas.List.{ext_get_or, get_or-take, length-map, length-take, map_more, take-map}
use Rattle.std.proofs.lemmas.List.Elements.{All-from_recursion, All-head, All-tail, recursion_from_All}
use Rattle.std.proofs.lemmas.Map.Entries.{lookup_from_place}
use Rattle.std.proofs.lemmas.Option.{slice_get-get_or}
use Rattle.std.proofs.lemmas.Slice.Eq.{bytes_eq-Decides}
use Rattle.git_model.specs.declared.file_mode.FileMode.TheVariants as mode
use Rattle.git_model.specs.declared.kind.Kind.{Kind}
use Rattle.git_model.specs.declared.kind.Kind.TheVariants as kind
use Rattle.git_model.specs.Content.{Content, name_by}
use Rattle.git_model.specs.GoodRepository.{AreObjects, StandsBefore, objects_limit, contents_limit}
use Rattle.git_model.specs.References.{no_object, object_at, place_of, reference, references_in, references_of}
use Rattle.git_model.specs.Repository.{Object, object_named, with_object}
use Rattle.git_model.specs.Tree.{TreeEntry}
use Rattle.git_model.specs.TreeReading.{tree_read}
use Rattle.git_model.proofs.Places.{first_named, first_place, later_named, later_place, nothing_named, of_entries}
use Rattle.content_pool.specs.Pool.{Cells, HasHoldsLeft, IsLive, content, holds}
use Rattle.tenant_tables.specs.declared.entry.Entry.{Entry}
use Rattle.tenant_tables.specs.declared.summary.Summary.{Summary}
use Rattle.tenant_tables.specs.Adding.{Adds}
use Rattle.tenant_tables.specs.IsBackedBy.{IsBackedBy, PreservesOthers}
use Rattle.tenant_tables.specs.Objects.{objects}
use Rattle.tenant_tables.specs.Room.{HasHoldsLeftBeside}
use Rattle.tenant_tables.specs.Sharing.{Shares}
use Rattle.tenant_tables.specs.Summed.{IsDirectoryThere, IsSummed, SummedAfter}
use Rattle.tenant_tables.specs.View.{Entries, View, entry_named, names, summary_of}
use Rattle.tenant_tables.proofs.AddLemmas.{no_entry}
use Rattle.tenant_tables.proofs.HoldLemmas.{held-at, held-nil, object_named-objects}
use Rattle.tenant_tables.proofs.PlainSums.{Stays, summed-stays}
use Rattle.tenant_tables.proofs.SummaryLemmas.{entry_named-take}
use Rattle.tenant_tables.proofs.TableLemmas.{IsBackedBy-nil, PreservesOthers-refl, PreservesOthers-then, length-objects}
use Rattle.tenant_tables.specs.Copied.{IsCopied, objects_at}

-- A table has just these objects, which another one had before. A tree has the summary that it has
-- there.
pub record HasFirst (digest : List ℕ → List ℕ) (before : Cells) (from : Entries) (pool : Cells)
    (made : Entries) (os : List Object) : Type 0 where
  pub stands : IsBackedBy digest pool made
  pub others : PreservesOthers before [] pool made
  pub are : objects pool made ≡ os
  pub summaries : (id : List ℕ) → is_some (object_named id os) ≡ true
      → summary_of id made ≡ summary_of id from

-- ---- lists

at-mapped : {X Y : Type 0} (f : X → Y) (xs : List X) (i : ℕ) (x : X) (d : Y)
    → slice_get xs i ≡ Some x → get_or (map f xs) i d ≡ f x
at-mapped f [] i x d h = cc h
at-mapped f (y ∷ xs) zero x d h = let same : y ≡ x = cc h in ap f same
at-mapped f (y ∷ xs) (suc i) x d h = at-mapped f xs i x d h

mapped-at : {X Y : Type 0} (f : X → Y) (xs : List X) (i : ℕ) (d : X) (e : Y) → i < length xs
    → get_or (map f xs) i e ≡ f (get_or xs i d)
mapped-at f [] i d e lt = absurd (omega arith)
mapped-at f (x ∷ xs) zero d e lt = refl
mapped-at f (x ∷ xs) (suc i) d e lt = mapped-at f xs i d e (omega arith)

of-all : {X : Type 0} (P : X → Type 0) (xs : List X) (i : ℕ) (x : X) → All P xs
    → slice_get xs i ≡ Some x → P x
of-all P [] i x all h = cc h
of-all P (y ∷ xs) zero x all h =
    let same : y ≡ x = cc h in subst P same (All-head P y xs all)
of-all P (y ∷ xs) (suc i) x all h = of-all P xs i x (All-tail P y xs all) h

-- ---- objects

with-new : (id : List ℕ) (c : Content) (os : List Object) → object_named id os ≡ None
    → with_object id c os ≡ os ++ record { id = id; content = c } ∷ []
with-new id c os none = rw none refl

named-front : (q : List ℕ) (o : Object) (os : List Object) → bytes_eq q o.id ≡ false
    → object_named q (os ++ o ∷ []) ≡ object_named q os
unfolding object_named
named-front q o [] nay = rw nay refl
named-front q o (x ∷ os) nay =
    ap (λ (rest : Option Content). cond (bytes_eq q x.id) (Some x.content) rest)
    (named-front q o os nay)

-- an object of a table has an entry
pub entry_held : (p : Cells) (es : Entries) (id : List ℕ)
    → is_some (object_named id (objects p es)) ≡ true → IsSome (entry_named id es)
entry_held p es id h = by (entry_named id es) (ap is_some (sym (object_named-objects p id es)) ∙ h)
  where
    by : (o : Option Entry) → is_some (option_map (λ e. content p e.slot) o) ≡ true → IsSome o
    by None h = cc h
    by (Some e) h = refl

-- ---- a list of good objects, up to a place

none-before : (i : ℕ) (os : List Object) (id : List ℕ) → i ≤ place_of id os
    → object_named id (take i os) ≡ None
none-before zero os id le = nothing_named id
none-before (suc i) [] id le = nothing_named id
none-before (suc i) (o ∷ os) id le = elim (cases_Bool (bytes_eq id o.id)) [
  | inl yea ↦ let place = first_place id o os yea in absurd (omega arith)
  | inr nay ↦
      let place = later_place id o os nay in
      later_named id o (take i os) nay ∙ none-before i os id (omega arith)
]

some-before : (i : ℕ) (os : List Object) (id : List ℕ) → place_of id os < i → i ≤ length os
    → is_some (object_named id (take i os)) ≡ true
some-before zero os id lt le = absurd (omega arith)
some-before (suc i) [] id lt le = absurd (omega arith)
some-before (suc i) (o ∷ os) id lt le = elim (cases_Bool (bytes_eq id o.id)) [
  | inl yea ↦ ap is_some (first_named id o (take i os) yea)
  | inr nay ↦
      let place = later_place id o os nay in
      ap is_some (later_named id o (take i os) nay)
      ∙ some-before i os id (omega arith) (omega arith)
]

-- A directory among the entries of a tree has its tree among these objects.
abbrev IsThere : List Object → TreeEntry → Type 0
IsThere os e = e.mode ≡ mode.Directory → is_some (object_named e.id os) ≡ true

module _ (digest : List ℕ → List ℕ) (os : List Object) (good : AreObjects digest os) (i : ℕ)
    (lt : i < length os) where
  -- the name at the place is new
  new-there : object_named (object_at i os).id (take i os) ≡ None
  new-there =
      let at = good.distinct i lt in none-before i os (object_at i os).id (omega (arith, at))

  there-each : (es : List TreeEntry)
      → AllByRecursion (λ e. e.mode ≡ mode.Directory
      → StandsBefore os i (reference kind.Tree e.id)) es
      → AllByRecursion (IsThere (take i os)) es
  there-each [] all = tt
  there-each (e ∷ es) all = (
    λ is. let b = (all.0 is).before in some-before i os e.id b (omega (arith, lt)),
    there-each es all.1,
  )

  -- the directories of a tree at the place are there
  directories-there : (c : Content) → (object_at i os).content ≡ c → c.kind ≡ kind.Tree
      → AllByRecursion (IsThere (take i os)) (tree_read c.bytes)
  directories-there c is tree =
      let all = subst (λ (x : Content). All (StandsBefore os i) (references_in x)) is
      (good.connected i lt) in
      there-each (tree_read c.bytes)
      (of_entries (StandsBefore os i) (tree_read c.bytes)
      (subst (λ (k : Kind). All (StandsBefore os i) (references_of k c.bytes)) tree all))

-- ---- one object more

-- What a table answers of a place.
abbrev pub told_of : List ℕ × Entry → List ℕ × ℕ
told_of x = (x.0, x.1.slot)

-- The object at one of the places is found in the other table, and those at the places before it
-- are added.
pub record IsNext (digest : List ℕ → List ℕ) (before pool : Cells) (from : Entries) (old : View)
    (places : List ℕ) (i : ℕ) (id : List ℕ) (slot : ℕ) : Type 0 where
  pub stands : IsBackedBy digest before from
  pub room : HasHoldsLeftBeside before []
  pub distinct : IsDistinct bytes_eq (names from)
  pub good : AreObjects digest (objects_at (objects before from) places)
  pub lt : i < length places
  pub told : Some (id, slot) ≡ option_map told_of (slice_get from (get_or places i 0))
  pub first : HasFirst digest before from pool old.entries
      (objects_at (objects before from) (take i places))

module _ (digest : List ℕ → List ℕ) (before pool : Cells) (from : Entries) (old : View)
    (places : List ℕ) (i : ℕ) (id : List ℕ) (slot : ℕ)
    (turn : IsNext digest before pool from old places i id slot) where
  open turn use {stands, room, distinct, good, lt, told, first}

  abbrev place : ℕ
  place = get_or places i 0

  abbrev src : List Object
  src = objects before from

  abbrev os : List Object
  os = objects_at src places

  entry : (e : Entry) × (slice_get from place ≡ Some (id, e)) × (e.slot ≡ slot)
  entry = by (slice_get from place) told
    where
      by : (o : Option (List ℕ × Entry)) → Some (id, slot) ≡ option_map told_of o
          → (e : Entry) × (o ≡ Some (id, e)) × (e.slot ≡ slot)
      by None h = cc h
      by (Some x) h =
          let e : (id, slot) ≡ (x.0, x.1.slot) = cc h in
          let name : x.0 ≡ id = sym (ap (λ (r : List ℕ × ℕ). r.0) e) in
          (x.1, λ j. Some (name j, x.1), sym (ap (λ (r : List ℕ × ℕ). r.1) e))

  abbrev object : Object
  object = record { id = id; content = content before slot }

  size : length os ≡ length places
  size = length-map places (λ (p : ℕ). object_at p src)

  front : objects_at src (take i places) ≡ take i os
  front = sym (take-map (λ (p : ℕ). object_at p src) i places)

  at-place : object_at place src ≡ object
  unfolding object_at objects
  at-place =
      let e = entry in
      at-mapped (λ (x : List ℕ × Entry). record { id = x.0; content = content before x.1.slot }) from
      place (id, e.0) no_object e.1
      ∙ (λ j. record { id = id; content = content before (e.2 j) })

  here : object_at i os ≡ object
  unfolding object_at
  here =
      mapped-at (λ (p : ℕ). object_at p src) places i 0 no_object lt ∙ at-place

  held-before : 0 < holds before slot
  held-before =
      let e = entry in
      let n = stands.counted e.0.slot in
      let m = held-at from place id e.0 e.1 in
      subst (λ (s : ℕ). 0 < holds before s) e.2 (omega arith)

  same : content pool slot ≡ content before slot
  same = first.others.kept slot (let z = held-nil slot in let h = held-before in omega arith)

  pub room-for : HasHoldsLeft pool
  room-for s =
      let a = room s in let b = first.stands.once s in let r = first.others.rest s in
      let z = held-nil s in omega arith

  pub is-live : IsLive pool slot
  is-live =
      let r = first.others.rest slot in let z = held-nil slot in let h = held-before in omega arith

  pub is-named : id ≡ name_by digest (content pool slot)
  is-named =
      let e = entry in
      of-all (λ (x : List ℕ × Entry). x.0 ≡ name_by digest (content before x.1.slot)) from place
      (id, e.0) stands.named e.1
      ∙ ap (λ (s : ℕ). name_by digest (content before s)) e.2 ∙ ap (name_by digest) (sym same)

  pub is-short : length (content pool slot).bytes ≤ contents_limit
  is-short =
      let e = entry in
      subst (λ (c : Content). length c.bytes ≤ contents_limit)
      (ap (content before) e.2 ∙ sym same)
      (of-all (λ (x : List ℕ × Entry). length (content before x.1.slot).bytes ≤ contents_limit) from
      place (id, e.0) stands.short e.1)

  new-object : object_named id (objects_at src (take i places)) ≡ None
  new-object =
      ap (object_named id) front ∙ ap (λ (o : Object). object_named o.id (take i os)) (sym here)
      ∙ new-there digest os good i (omega (arith, size, lt))

  pub is-new : entry_named id old.entries ≡ None
  is-new =
      no_entry pool id old.entries
      (ap (λ (xs : List Object). object_named id xs) first.are ∙ new-object)

  pub is-spare : length old.entries < objects_limit
  is-spare =
      let a = length-objects pool old.entries in
      let b = ap length first.are in
      let c = length-map (take i places) (λ (p : ℕ). object_at p src) in
      let d = length-take i places in
      let few = good.few in
      omega (arith, size, lt)

  summary-there : summary_of id from ≡ entry.0.summary
  unfolding entry_named
  summary-there =
      ap (option_and_then (λ (e : Entry). e.summary))
      (lookup_from_place nat_list_eq_equiv from place id entry.0 distinct entry.1)

  stays-each : (es : List TreeEntry)
      → AllByRecursion (IsDirectoryThere (take place from)) es → AllByRecursion (IsThere (take i os)) es
      → AllByRecursion (λ e. e.mode ≡ mode.Directory → Stays (take place from) old.entries e.id) es
  stays-each [] all there = tt
  stays-each (e ∷ es) all there = (
    λ is.
        let copied = ap (λ (xs : List Object). is_some (object_named e.id xs)) front ∙ there.0 is in record {
          there = entry_held pool old.entries e.id
              (ap (λ (xs : List Object). is_some (object_named e.id xs)) first.are ∙ copied);
          same =
              ap (option_and_then (λ (x : Entry). x.summary)) (entry_named-take place from e.id (all.0 is))
              ∙ sym (first.summaries e.id copied);
        },
    stays-each es all.1 there.1,
  )

  summed-after : (c : Content) → content before slot ≡ c → (s : Option Summary)
      → SummedAfter (take place from) c s → SummedAfter old.entries c s
  summed-after c has s h =
      let P = λ (e : TreeEntry). e.mode ≡ mode.Directory → Stays (take place from) old.entries e.id in
      summed-stays (take place from) old.entries c s
      (λ tree. All-from_recursion P (tree_read c.bytes)
      (stays-each (tree_read c.bytes)
      (recursion_from_All (IsDirectoryThere (take place from)) (tree_read c.bytes) (h.directories tree))
      (directories-there digest os good i (omega (arith, size, lt)) c
      (ap (λ (o : Object). o.content) here ∙ has) tree))) h

  pub is-summed : SummedAfter old.entries (content pool slot) (summary_of id from)
  unfolding IsSummed
  is-summed =
      let e = entry in
      let at = stands.summed place id e.0 e.1 in
      rw (same, summary-there)
      (summed-after (content before slot) refl e.0.summary
      (subst (λ (s : ℕ). SummedAfter (take place from) (content before s) e.0.summary) e.2 at))

  longer : objects_at src (take (i + 1) places) ≡ objects_at src (take i places) ++ object ∷ []
  longer =
      map_more (λ (p : ℕ). object_at p src) places i 0 lt
      ∙ ap (λ (o : Object). objects_at src (take i places) ++ o ∷ []) at-place

  -- the objects with the one at the place
  pub and-next : (after : Cells) (new : View) → IsBackedBy digest after new.entries
      → PreservesOthers pool old.entries after new.entries
      → Adds digest (content pool slot) (summary_of id from) pool old after new
      → HasFirst digest before from after new.entries (objects_at src (take (i + 1) places))
  and-next after new backed others adds = record {
    stands = backed;
    others = PreservesOthers-then before pool after [] old.entries new.entries first.others others;
    are =
        adds.objects ∙ (λ j. with_object (sym is-named j) (same j) (first.are j))
        ∙ with-new id (content before slot) (objects_at src (take i places)) new-object ∙ sym longer;
    summaries = λ q there.
        adds.summaries q
        ∙ ap (λ (n : List ℕ). cond (bytes_eq q n) (summary_of id from) (summary_of q old.entries)) (sym is-named)
        ∙ by q there (bytes_eq q id) refl;
  }
    where
      by : (q : List ℕ) → is_some (object_named q (objects_at src (take (i + 1) places))) ≡ true
          → (b : Bool) → bytes_eq q id ≡ b
          → cond b (summary_of id from) (summary_of q old.entries) ≡ summary_of q from
      by q there true yea =
          ap (λ (n : List ℕ). summary_of n from) (sym ((bytes_eq-Decides q id).0 yea))
      by q there false nay =
          first.summaries q
          (sym (ap is_some (ap (object_named q) longer
          ∙ named-front q object (objects_at src (take i places)) nay)) ∙ there)

no-objects : (p : Cells) → objects p [] ≡ []
unfolding objects
no-objects p = refl

-- before the first
pub none-yet : (digest : List ℕ → List ℕ) (p : Cells) (from made : Entries) → made ≡ []
    → HasFirst digest p from p made []
none-yet digest p from made none =
    subst (λ (es : Entries). HasFirst digest p from p es []) (sym none)
    (record {
      stands = IsBackedBy-nil digest p;
      others = PreservesOthers-refl p [];
      are = no-objects p;
      summaries = λ id some. let none = nothing_named id in cc;
    })

-- a place within a table has an object
pub is-at : (es : Entries) (p : ℕ) → p < length es
    → is_some (option_map told_of (slice_get es p)) ≡ true
is-at es p lt =
    ap (λ (o : Option (List ℕ × Entry)). is_some (option_map told_of o))
    (slice_get-get_or es p ([], record { slot = 0; summary = None }) lt)

-- ---- the whole table

module _ (digest : List ℕ → List ℕ) (places : List ℕ) (entries : Entries) (p q : Cells) where
  -- all were added
  pub all-added : (made copy : View) → IsBackedBy digest q made.entries
      → PreservesOthers p [] q made.entries
      → objects q made.entries ≡ objects_at (objects p entries) places
      → copy ≡ record made { committed = length made.entries }
      → IsCopied digest places entries p q copy
  all-added made copy stands others are is =
      subst (λ (v : View). IsCopied digest places entries p q v) (sym is)
      (record { stands = stands; others = others; objects = are; committed = refl })

  -- those that were added are removed
  pub none-left : (r : Cells) (made left : View) → PreservesOthers p [] q made.entries
      → PreservesOthers q made.entries r left.entries
      → left ≡ record made { entries = take made.committed made.entries } → made.committed ≡ 0
      → PreservesOthers p [] r []
  none-left r made left others released is none =
      subst (λ (es : Entries). PreservesOthers p [] r es)
      (ap (λ (v : View). v.entries) is ∙ ap (λ (n : ℕ). take n made.entries) none)
      (PreservesOthers-then p q r [] made.entries left.entries others released)

  -- each place is its own position
  abbrev AreFirst : Type 0
  AreFirst = (k : ℕ) → k < length places → get_or places k 0 ≡ k

  few-places : (m : ℕ) → AreFirst → All (λ place. place < m) places → length places ≤ m
  few-places m first within = elim (cases_eq (length places) 0) [
    | inl none ↦ omega (arith, none)
    | inr some ↦
        let last : length places - 1 < length places = omega (arith, some) in
        let at = first (length places - 1) last in
        let lt = within (length places - 1) 0 last in
        omega (arith, at, lt, some)
  ]

  first-places : (os : List Object) → AreFirst → length places ≤ length os
      → objects_at os places ≡ take (length places) os
  unfolding object_at
  first-places os first few =
      ext_get_or no_object (objects_at os places) (take (length places) os)
      (let a = length-map places (λ (p : ℕ). object_at p os) in
      let b = length-take (length places) os in omega (arith, a, b))
      (λ i lt.
      let a = length-map places (λ (p : ℕ). object_at p os) in
      let within : i < length places = omega (arith, a, lt) in
      mapped-at (λ (p : ℕ). object_at p os) places i 0 no_object within
      ∙ ap (λ (p : ℕ). object_at p os) (first i within)
      ∙ sym (get_or-take (length places) os i no_object within))

  -- they are shared
  all-shared : (copy : View) → AreFirst → All (λ place. place < length entries) places
      → Shares digest (length places) entries p q copy → IsCopied digest places entries p q copy
  all-shared copy first within s =
      let few = few-places (length entries) first within in
      record {
        stands = s.stands;
        others = s.others;
        objects = s.objects
            ∙ sym (first-places (objects p entries) first
            (let size = length-objects p entries in omega (arith, size, few)));
        committed =
            let size = length-take (length places) entries in
            ap (λ (v : View). v.committed) s.table
            ∙ (let least : length places ≡ length (take (length places) entries) = omega (arith, size, few) in least)
            ∙ sym (ap (λ (v : View). length v.entries) s.table);
      }

  pub if-shared : {E : Type 0} (r : Result View E) → AreFirst
      → All (λ place. place < length entries) places
      → IfOk r (λ copy. Shares digest (length places) entries p q copy)
      → IfOk r (λ copy. IsCopied digest places entries p q copy)
  if-shared (Ok copy) first within s = all-shared copy first within s
  if-shared (Err e) first within s = tt

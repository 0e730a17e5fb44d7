-- The first objects of a table over one pool, added in turn to a table over another pool.
use Rattle.std.proofs.Common.{◌≡◌, ◌≢◌, ℕ, zero, suc, ◌+◌, ◌<◌, ◌≤◌, Bool, true, false, cond, List, [], ◌∷◌, ◌++◌, length, take, slice_get, map, All, Option, Some, None, Result, Ok, Err, refl, sym, ap, subst, ◌∙◌, inl, inr, arith, true≢false}
use Rattle.std.specs.Prelude.{IsSome, OnOk, get_or, is_some}
use Rattle.std.specs.List.{AllByRecursion, IsDistinct}
use Rattle.std.specs.Map.{lookup}
use Rattle.std.specs.Option.{option_and_then, option_map}
use Rattle.std.specs.Str.{bytes_eq}
use Rattle.std.proofs.lemmas.Bool.{cases_eq}
use Rattle.std.proofs.lemmas.Cmp.{nat_list_eq_equiv}
use Rattle.std.proofs.lemmas.List.{length-take, map-append}
use Rattle.std.proofs.lemmas.List.Elements.{All-head, All-tail}
use Rattle.std.proofs.lemmas.Map.Entries.{lookup_from_place}
use Rattle.std.proofs.lemmas.Slice.Eq.{bytes_eq-Decides}
use Rattle.git_model.specs.Content.{Content, name_by}
use Rattle.git_model.specs.GoodRepository.{objects_limit, contents_limit}
use Rattle.git_model.specs.Repository.{Object, object_named, with_object}
use Rattle.git_model.specs.TreeReading.{tree_read}
use Rattle.content_pool.specs.Pool.{Cells, HasHoldsLeft, IsLive, Puts, Releases, content, holds}
use Rattle.tenant_tables.specs.declared.entry.Entry.{Entry}
use Rattle.tenant_tables.specs.declared.summary.Summary.{Summary}
use Rattle.tenant_tables.specs.Adding.{Adds}
use Rattle.tenant_tables.specs.IsBackedBy.{IsBackedBy, PreservesOthers}
use Rattle.tenant_tables.specs.Objects.{objects}
use Rattle.tenant_tables.specs.Summed.{IsSummed, SummedAfter}
use Rattle.tenant_tables.specs.View.{Entries, View, entry_named, held, names, summary_of}
use Rattle.tenant_tables.proofs.AddLemmas.{no_entry}
use Rattle.tenant_tables.proofs.HoldLemmas.{held-absent, held-at, object_named-objects, objects-kept}
use Rattle.tenant_tables.proofs.RoomLemmas.{has_room}
use Rattle.tenant_tables.proofs.TableLemmas.{IsBackedBy-kept, Keeps-put, Keeps-release, length-objects, objects-take}
use Rattle.tenant_service.specs.Across.{HasFirst, MayAdd}
use Rattle.tenant_tables.proofs.Copies.{entry_held, told_of}
use Rattle.tenant_tables.proofs.PlainSums.{summed-stays}

-- ---- lists of entries

take-next : {X : Type 0} (xs : List X) (i : ℕ) (x : X) → slice_get xs i ≡ Some x
    → take (suc i) xs ≡ take i xs ++ x ∷ []
take-next [] i x h = cc h
take-next (y ∷ ys) zero x h = let same : y ≡ x = cc h in ap (λ z. z ∷ []) same
take-next (y ∷ ys) (suc i) x h = ap (λ zs. y ∷ zs) (take-next ys i x h)

at-place : {X : Type 0} (P : X → Type 0) (xs : List X) (i : ℕ) (x : X) → All P xs
    → slice_get xs i ≡ Some x → P x
at-place P [] i x all h = cc h
at-place P (y ∷ xs) zero x all h =
    let same : y ≡ x = cc h in subst P same (All-head P y xs all)
at-place P (y ∷ xs) (suc i) x all h = at-place P xs i x (All-tail P y xs all) h

key-there : (P : List ℕ → Type 0) (es : Entries) (i : ℕ) (x : List ℕ × Entry)
    → AllByRecursion P (names es) → slice_get es i ≡ Some x → P x.0
key-there P [] i x all h = cc h
key-there P (y ∷ es) zero x all h =
    let same : y ≡ x = cc h in subst (λ (z : List ℕ × Entry). P z.0) same all.0
key-there P (y ∷ es) (suc i) x all h = key-there P es i x all.1 h

-- a name is not among those before its own place
absent-before : (es : Entries) (i : ℕ) (id : List ℕ) (e : Entry) → IsDistinct bytes_eq (names es)
    → slice_get es i ≡ Some (id, e) → entry_named id (take i es) ≡ None
unfolding IsDistinct entry_named
absent-before es zero id e distinct h = refl
absent-before [] (suc i) id e distinct h = refl
absent-before (x ∷ es) (suc i) id e distinct h =
    by (bytes_eq id x.0) refl (absent-before es i id e distinct.1 h)
  where
    by : (b : Bool) → bytes_eq id x.0 ≡ b → lookup (bytes_eq id) (take i es) ≡ None
        → cond b (Some x.1) (lookup (bytes_eq id) (take i es)) ≡ None
    by true here rest =
        let apart = key-there (λ y. bytes_eq x.0 y ≡ false) es i (id, e) distinct.0 h in
        absurd (true≢false (sym ((bytes_eq-Decides x.0 id).1 (sym ((bytes_eq-Decides id x.0).0 here))) ∙ apart))
    by false past rest = rest

with-new : (id : List ℕ) (c : Content) (os : List Object) → object_named id os ≡ None
    → with_object id c os ≡ os ++ record { id = id; content = c } ∷ []
with-new id c os none = rw none refl

-- the look-up of a name among entries and a new one
named-push : (q : List ℕ) (es : Entries) (id : List ℕ) (e : Entry) → entry_named id es ≡ None
    → summary_of q (es ++ (id, e) ∷ []) ≡ cond (bytes_eq q id) e.summary (summary_of q es)
unfolding entry_named
named-push q [] id e none = by (bytes_eq q id)
  where
    by : (b : Bool) → option_and_then (λ (f : Entry). f.summary) (cond b (Some e) None)
        ≡ cond b e.summary None
    by true = refl
    by false = refl
named-push q (x ∷ es) id e none =
    by (bytes_eq q x.0) refl (bytes_eq id x.0) refl none (named-push q es id e)
  where
    by : (b : Bool) → bytes_eq q x.0 ≡ b → (c : Bool) → bytes_eq id x.0 ≡ c
        → cond c (Some x.1) (lookup (bytes_eq id) es) ≡ None
        → (lookup (bytes_eq id) es ≡ None
        → summary_of q (es ++ (id, e) ∷ []) ≡ cond (bytes_eq q id) e.summary (summary_of q es))
        → option_and_then (λ (f : Entry). f.summary) (cond b (Some x.1) (lookup (bytes_eq q) (es ++ (id, e) ∷ [])))
        ≡ cond (bytes_eq q id) e.summary
        (option_and_then (λ (f : Entry). f.summary) (cond b (Some x.1) (lookup (bytes_eq q) es)))
    by b here true same none rest = cc none
    by false here false other none rest = rest none
    by true here false other none rest = away (bytes_eq q id) refl
      where
        away : (d : Bool) → bytes_eq q id ≡ d → x.1.summary ≡ cond d e.summary x.1.summary
        away false apart = refl
        away true is =
            let there : id ≡ x.0 =
            sym ((bytes_eq-Decides q id).0 is) ∙ (bytes_eq-Decides q x.0).0 here in
            absurd (true≢false (sym ((bytes_eq-Decides id x.0).1 there) ∙ other))

-- ---- a content after entries that have the same names and summaries

module _ (a b : Entries) (agree : (id : List ℕ) → summary_of id a ≡ summary_of id b)
    (there : (id : List ℕ) → IsSome (entry_named id a) → IsSome (entry_named id b)) where
  summed-too : (c : Content) (s : Option Summary) → SummedAfter a c s → SummedAfter b c s
  summed-too c s h =
      summed-stays a b c s
      (λ tree k d within is.
      let id = (get_or (tree_read c.bytes) k d).id in
      record { there = there id (h.directories tree k d within is); same = agree id }) h

-- ---- one object more

module _ (digest : List ℕ → List ℕ) (from : Cells) (entries : Entries) (place : ℕ) (p : Cells)
    (made : Entries) (turn : MayAdd digest from entries place p made)
    (distinct : IsDistinct bytes_eq (names entries)) (few : length entries ≤ objects_limit)
    (id : List ℕ) (source : ℕ)
    (told : Some (id, source) ≡ option_map told_of (slice_get entries place)) where
  entry : (e : Entry) × (slice_get entries place ≡ Some (id, e)) × (e.slot ≡ source)
  entry = by (slice_get entries place) told
    where
      by : (o : Option (List ℕ × Entry)) → Some (id, source) ≡ option_map told_of o
          → (e : Entry) × (o ≡ Some (id, e)) × (e.slot ≡ source)
      by None h = cc h
      by (Some x) h =
          let e : (id, source) ≡ (x.0, x.1.slot) = cc h in
          let name : x.0 ≡ id = sym (ap (λ (r : List ℕ × ℕ). r.0) e) in
          (x.1, λ j. Some (name j, x.1), sym (ap (λ (r : List ℕ × ℕ). r.1) e))

  abbrev here : Content
  here = content from source

  pub source-live : IsLive from source
  source-live =
      let e = entry in
      let n = turn.source.counted e.0.slot in
      let m = held-at entries place id e.0 e.1 in
      subst (λ (s : ℕ). 0 < holds from s) e.2 (omega arith)

  pub source-named : id ≡ name_by digest here
  source-named =
      let e = entry in
      at-place (λ (x : List ℕ × Entry). x.0 ≡ name_by digest (content from x.1.slot)) entries place
      (id, e.0) turn.source.named e.1
      ∙ ap (λ (s : ℕ). name_by digest (content from s)) e.2

  pub room-put : HasHoldsLeft p
  room-put = has_room digest p made turn.stands turn.room

  source-short : length here.bytes ≤ contents_limit
  source-short =
      let e = entry in
      subst (λ (s : ℕ). length (content from s).bytes ≤ contents_limit) e.2
      (at-place (λ (x : List ℕ × Entry). length (content from x.1.slot).bytes ≤ contents_limit)
      entries place (id, e.0) turn.source.short e.1)

  before-none : entry_named id (take place entries) ≡ None
  before-none = let e = entry in absent-before entries place id e.0 distinct e.1

  named-none : object_named id (objects p made) ≡ None
  named-none =
      ap (object_named id) (turn.first.objects ∙ sym (objects-take from place entries))
      ∙ object_named-objects from id (take place entries)
      ∙ ap (option_map (λ (e : Entry). content from e.slot)) before-none

  pub is-new : entry_named id made ≡ None
  is-new = no_entry p id made named-none

  pub is-spare : length made < objects_limit
  is-spare =
      let a = length-objects p made in
      let b = ap length turn.first.objects in
      let c = length-take place (objects from entries) in
      let d = length-objects from entries in
      let w = turn.within in
      omega (arith, few)

  summary-there : summary_of id entries ≡ entry.0.summary
  unfolding entry_named
  summary-there =
      ap (option_and_then (λ (e : Entry). e.summary))
      (lookup_from_place nat_list_eq_equiv entries place id entry.0 distinct entry.1)

  still-there : (q : List ℕ) → IsSome (entry_named q (take place entries)) → IsSome (entry_named q made)
  still-there q some =
      entry_held p made q
      (ap is_some
      (ap (object_named q) (turn.first.objects ∙ sym (objects-take from place entries))
      ∙ object_named-objects from q (take place entries))
      ∙ mapped (entry_named q (take place entries)) some)
    where
      mapped : (o : Option Entry) → IsSome o → is_some (option_map (λ e. content from e.slot) o) ≡ true
      mapped None h = cc h
      mapped (Some e) h = refl

  summed-here : SummedAfter made here (summary_of id entries)
  unfolding IsSummed
  summed-here =
      let e = entry in
      summed-too (take place entries) made (λ q. sym (turn.first.summaries q)) still-there here
      (summary_of id entries)
      (subst (λ (s : Option Summary). SummedAfter (take place entries) here s) (sym summary-there)
      (subst (λ (s : ℕ). SummedAfter (take place entries) (content from s) e.0.summary) e.2
      (turn.source.summed place id e.0 e.1)))

  -- after the content was put
  module _ (q : Cells) (slot : ℕ) (puts : Puts p q slot here) where
    pub put-live : IsLive q slot
    put-live = let h = puts.held in omega arith

    pub put-named : id ≡ name_by digest (content q slot)
    put-named = source-named ∙ ap (name_by digest) (sym puts.has)

    more : (s : ℕ) → holds p s ≤ holds q s
    more s =
        elim (cases_eq s slot) [
          | inl same ↦ rw same (let h = puts.held in omega arith)
          | inr other ↦ let h = puts.others s other in omega arith
        ]

    pub put-stands : IsBackedBy digest q made
    put-stands =
        IsBackedBy-kept digest p q made turn.stands
        (Keeps-put p q slot here made puts turn.stands.counted)
        (λ s. let a = turn.stands.counted s in let b = more s in omega arith)

    pub put-room : HasHoldsLeft q
    put-room s =
        elim (cases_eq s slot) [
          | inl same ↦
              let none = held-absent digest q made id slot put-stands.named is-new put-named in
              let h = puts.held in
              let r = turn.room slot in
              rw same (omega (arith, none))
          | inr other ↦
              let h = puts.others s other in
              let r = turn.room s in
              let o = turn.stands.once s in
              omega arith
        ]

    pub put-summed : SummedAfter made (content q slot) (summary_of id entries)
    put-summed =
        subst (λ (c : Content). SummedAfter made c (summary_of id entries)) (sym puts.has) summed-here

    pub put-short : length (content q slot).bytes ≤ contents_limit
    put-short =
        subst (λ (c : Content). length c.bytes ≤ contents_limit) (sym puts.has) source-short

    -- after the entry was added, or not
    module _ (r : Cells) (new : Entries) (stands : IsBackedBy digest r new)
        (others : PreservesOthers q made r new) where
      pub slot-live : IsLive r slot
      slot-live =
          let a = others.rest slot in
          let b = puts.held in
          let c = turn.stands.counted slot in
          omega arith

      module _ (s : Cells) (releases : Releases r s slot) where
        counts : (t : ℕ) → holds s t + held made t ≡ holds p t + held new t
        counts t =
            elim (cases_eq t slot) [
              | inl same ↦
                  let a = releases.held in
                  let b = others.rest slot in
                  let c = puts.held in
                  rw same (omega arith)
              | inr other ↦
                  let a = releases.others t other in
                  let b = others.rest t in
                  let c = puts.others t other in
                  omega arith
            ]

        still : (t : ℕ) → held new t ≤ holds s t
        still t = let a = counts t in let b = turn.stands.counted t in omega arith

        pub left-stands : IsBackedBy digest s new
        left-stands =
            IsBackedBy-kept digest r s new stands (Keeps-release r s slot new releases still) still

        pub left-first : (old new-view : View) → old.entries ≡ made → new-view.entries ≡ new
            → Adds digest (content q slot) (summary_of id entries) q old r new-view
            → HasFirst from entries (place + 1) s new
        unfolding objects
        left-first old view was is adds = record { objects = are; summaries = sums }
          where
            longer : take (place + 1) entries ≡ take place entries ++ (id, entry.0) ∷ []
            longer =
                let n : place + 1 ≡ suc place = omega arith in
                ap (λ (n : ℕ). take n entries) n ∙ take-next entries place (id, entry.0) entry.1

            appended : with_object (name_by digest (content q slot)) (content q slot) (objects q made)
                ≡ take (place + 1) (objects from entries)
            appended =
                let kept = objects-kept p q made (Keeps-put p q slot here made puts turn.stands.counted) in
                let front = sym (objects-take from place entries) in
                let there = sym entry.2 in
                let back = sym put-named in
                (λ i. with_object (back i) (puts.has i) (kept i))
                ∙ with-new id here (objects p made) named-none
                ∙ ap (λ (os : List Object). os ++ record { id = id; content = here } ∷ []) turn.first.objects
                ∙ (λ i. front i ++ record { id = id; content = content from (there i) } ∷ [])
                ∙ sym (map-append (λ (e : List ℕ × Entry). record { id = e.0; content = content from e.1.slot }) (take place entries) ((id, entry.0) ∷ []))
                ∙ ap (objects from) (sym longer)
                ∙ objects-take from (place + 1) entries

            are : objects s new ≡ take (place + 1) (objects from entries)
            are =
                objects-kept r s new (Keeps-release r s slot new releases still)
                ∙ ap (objects r) (sym is) ∙ adds.objects
                ∙ ap (λ (es : Entries). with_object (name_by digest (content q slot)) (content q slot) (objects q es)) was
                ∙ appended

            sums : (x : List ℕ) → summary_of x new ≡ summary_of x (take (place + 1) entries)
            sums x =
                let back = sym put-named in
                ap (summary_of x) (sym is) ∙ adds.summaries x
                ∙ (λ i. cond (bytes_eq x (back i)) (summary-there i) (summary_of x (was i)))
                ∙ ap (λ (o : Option Summary). cond (bytes_eq x id) entry.0.summary o) (turn.first.summaries x)
                ∙ sym (named-push x (take place entries) id entry.0 before-none)
                ∙ ap (summary_of x) (sym longer)

no-objects : (p : Cells) → objects p [] ≡ []
unfolding objects
no-objects p = refl

-- before the first
pub none-first : (from : Cells) (entries : Entries) (p : Cells) (made : Entries) → made ≡ []
    → HasFirst from entries 0 p made
none-first from entries p made none =
    subst (λ (es : Entries). HasFirst from entries 0 p es) (sym none)
    (record { objects = no-objects p; summaries = λ id. refl })

-- what follows after an Ok
pub on-ok : {X E : Type 0} (r : Result X E) (A B : Type 0) → (A → B) → OnOk r A → OnOk r B
on-ok (Ok x) A B f h = f h
on-ok (Err e) A B f h = tt

-- What is left of a sound repository, when all goes that its refs do not reach, is sound, has all
-- that they reach, and has it again.
use Rattle.std.proofs.Common.{◌≡◌, ℕ, Bool, true, false, cond, ◌&&◌, List, [], ◌∷◌, length, filter, map, All, Option, None, Some, refl, sym, ap, ◌∙◌, subst, inl, inr}
use Rattle.std.specs.Prelude.{IsTrue, unwrap_or}
use Rattle.std.specs.FinMap.{get-entries}
use Rattle.std.specs.FinMap.Entries.{find}
use Rattle.std.specs.List.{AllByRecursion, list_any}
use Rattle.std.specs.Option.{option_map}
use Rattle.std.specs.Ordering.{eq_by_cmp, nat_cmp}
use Rattle.std.specs.Cmp.Lexicographic.{slice_cmp}
use Rattle.std.proofs.lemmas.Bool.{or_cases, or_left, or_right}
use Rattle.std.proofs.lemmas.List.Elements.{All-from_recursion, All-map, All-nil}
use Rattle.git_model.proofs.Readables.{objects_are}
use Rattle.git_model.specs.Content.{Content, no_content}
use Rattle.git_model.specs.GoodRepository.{AreObjects, AreRefs, MayHold}
use Rattle.git_model.specs.Reach.{Reaches, is_reachable, is_referred_to}
use Rattle.git_model.specs.References.{Reference, content_named, kind_named, place_of, referred_by, references_in}
use Rattle.git_model.specs.RefStore.{listed_refs, target_of}
use Rattle.git_model.specs.Repository.{Object, Repository, object_named}
use Rattle.git_model.specs.TagReading.{tag_read}
use Rattle.git_model.proofs.Earlier.{place_within, references_fall}
use Rattle.git_model.proofs.Least.{least}
use Rattle.import_session.specs.Sound.{IsSoundRepository}
use Rattle.pool_file_checks.proofs.GoodObjects.{distinct_ids}
use Rattle.export_text.specs.Reached.{reached_objects}
use Rattle.export_laws.proofs.Known.{reached-on}
use Rattle.export_laws.proofs.RefsKnown.{IsRef, each-ref}
use Rattle.tenant_service.specs.Compacting.{IsCompacted, compacted}
use Rattle.tenant_service.proofs.CompactObjects.{IsWhole, objects-left, those-named, those-on, those-were, trees-left}

-- ---- lists

-- what holds of each listed ref holds of what is found
found-among : (P : List ℕ × List ℕ → Type 0) (q id : List ℕ) (es : List (List ℕ × List ℕ))
    → AllByRecursion P es → find (slice_cmp nat_cmp) q es ≡ Some id → (ref : List ℕ) × P (ref, id)
found-among P q id [] all is = cc
found-among P q id (e ∷ es) all is =
    by (eq_by_cmp (slice_cmp nat_cmp) q e.0) is (found-among P q id es all.1)
  where
    by : (b : Bool) → cond b (Some e.1) (find (slice_cmp nat_cmp) q es) ≡ Some id
        → (find (slice_cmp nat_cmp) q es ≡ Some id → (ref : List ℕ) × P (ref, id))
        → (ref : List ℕ) × P (ref, id)
    by true here rest =
        let same : e.1 ≡ id = cc in
        (e.0, subst (λ (x : List ℕ). P (e.0, x)) same all.0)
    by false later rest = rest later

any-among : {X : Type 0} (P : X → Type 0) (p q : X → Bool)
    → ((x : X) → P x → p x ≡ true → q x ≡ true) → (xs : List X) → AllByRecursion P xs
    → list_any p xs ≡ true → list_any q xs ≡ true
any-among P p q also [] all some = some
any-among P p q also (x ∷ xs) all some = elim (or_cases (p x) (list_any p xs) some) [
  | inl one ↦ or_left (q x) (list_any q xs) (also x all.0 one)
  | inr rest ↦ or_right (q x) (list_any q xs) (any-among P p q also xs all.1 rest)
]

both-true : (a b : Bool) → a ≡ true → b ≡ true → (a && b) ≡ true
both-true true true p q = refl
both-true true false p q = q
both-true false b p q = p

right-true : (a b : Bool) → (a && b) ≡ true → b ≡ true
right-true true b h = h
right-true false true h = refl
right-true false false h = h

left-true : (a b : Bool) → (a && b) ≡ true → a ≡ true
left-true true b h = refl
left-true false b h = h

-- objects that all pass stay, where the test is of objects that passed another
pass-again : (p q : Object → Bool) → ((o : Object) → p o ≡ true → q o ≡ true) → (os : List Object)
    → filter q (filter p os) ≡ filter p os
pass-again p q also [] = refl
pass-again p q also (o ∷ os) = by (p o) refl (pass-again p q also os)
  where
    by : (b : Bool) → p o ≡ b → filter q (filter p os) ≡ filter p os
        → filter q (cond b (o ∷ filter p os) (filter p os)) ≡ cond b (o ∷ filter p os) (filter p os)
    by true on rest =
        ap (λ (b : Bool). cond b (o ∷ filter q (filter p os)) (filter q (filter p os))) (also o on)
        ∙ ap (λ (xs : List Object). o ∷ xs) rest
    by false off rest = rest

module _ (digest : List ℕ → List ℕ) (repository : Repository)
    (sound : IsSoundRepository digest repository) where
  abbrev os : List Object
  os = repository.objects

  abbrev set : List ℕ → Bool
  set = is_referred_to repository

  abbrev left : List Object
  left = reached_objects repository

  whole : IsWhole set os
  whole id c is on = reached-on digest repository sound.objects id c is on

  good-left : AreObjects digest left
  good-left = objects-left digest set os sound.objects whole

  -- ---- the refs

  target-reached : (ref id : List ℕ) → target_of repository.refs ref ≡ Some id → set id ≡ true
  target-reached ref id is =
      (found-among (IsRef repository) ref id (listed_refs repository.refs) (each-ref repository)
      (sym (get-entries repository.refs.refs ref) ∙ is)).1.reached

  same-kind : (id : List ℕ) → set id ≡ true → kind_named id left ≡ kind_named id os
  same-kind id on =
      ap (λ (o : Option Content). option_map (λ (c : Content). c.kind) o) (those-named set id os on)

  same-content : (id : List ℕ) → set id ≡ true → content_named id left ≡ content_named id os
  same-content id on =
      ap (λ (o : Option Content). unwrap_or o no_content) (those-named set id os on)

  still-held : (ref id : List ℕ) → set id ≡ true → MayHold os ref id → MayHold left ref id
  still-held ref id on held = elim held [
    | inl commit ↦ inl (same-kind id on ∙ commit)
    | inr tag ↦ inr (
      tag.0,
      tag.1,
      (
        same-kind id on ∙ tag.2.0,
        ap (λ (c : Content). (tag_read c.bytes).name) (same-content id on) ∙ tag.2.1,
      ),
    )
  ]

  refs-left : AreRefs left repository.refs
  refs-left = record {
    names = sound.refs.names;
    targets = λ ref id is. still-held ref id (target-reached ref id is) (sound.refs.targets ref id is);
    head = sound.refs.head;
    few = sound.refs.few;
  }

  pub compacted-sound : IsSoundRepository digest (compacted repository)
  compacted-sound = record {
    objects = good-left;
    trees = trees-left digest set os sound.objects whole sound.trees;
    refs = refs-left;
  }

  -- ---- what was reached is reached again

  abbrev leads : List ℕ → List (List ℕ)
  leads = referred_by os

  abbrev leads-left : List ℕ → List (List ℕ)
  leads-left = referred_by left

  next-on : (id : List ℕ) → set id ≡ true → All (λ next. set next ≡ true) (leads id)
  next-on id on = by (object_named id os) refl
    where
      by : (found : Option Content) → object_named id os ≡ found
          → All (λ next. set next ≡ true)
          (map (λ (r : Reference). r.id) (references_in (unwrap_or found no_content)))
      by None is = All-nil (λ next. set next ≡ true)
      by (Some c) is =
          All-map (λ next. set next ≡ true) (λ (r : Reference). r.id) (references_in c)
          (All-from_recursion (λ (r : Reference). set r.id ≡ true) (references_in c) (whole id c is on))

  same-leads : (id : List ℕ) → set id ≡ true → leads-left id ≡ leads id
  same-leads id on =
      ap (λ (c : Content). map (λ (r : Reference). r.id) (references_in c)) (same-content id on)

  reaches-left : (from id : List ℕ) → set from ≡ true → Reaches leads from id
      → Reaches leads-left from id
  reaches-left from id on reaches = record {
    in_each = λ other starts closed.
        right-true (set id) (other id)
        (reaches.in_each (λ x. set x && other x) (both-true (set from) (other from) on starts)
        (λ x in_both.
        let here = left-true (set x) (other x) in_both in
        let theirs = subst (λ (ids : List (List ℕ)). All (λ b. IsTrue (other b)) ids) (same-leads x here)
        (closed x (right-true (set x) (other x) in_both)) in
        let ours = next-on x here in
        λ k d lt. both-true _ _ (ours k d lt) (theirs k d lt)));
  }

  still-reachable : (from id : List ℕ) → set from ≡ true → is_reachable os leads from id ≡ true
      → is_reachable left leads-left from id ≡ true
  still-reachable from id on h =
      (least leads-left (λ x. place_of x left) (references_fall digest left (objects_are digest left good-left)) (length left) from id
      (place_within from left)).1
      (reaches-left from id on
      ((least leads (λ x. place_of x os) (references_fall digest os (objects_are digest os sound.objects)) (length os) from id
      (place_within from os)).0 h))

  still-reached : (id : List ℕ) → set id ≡ true → is_referred_to (compacted repository) id ≡ true
  unfolding is_referred_to
  still-reached id h =
      any-among (IsRef repository) (λ ref. is_reachable os leads ref.1 id)
      (λ ref. is_reachable left leads-left ref.1 id)
      (λ ref is. still-reachable ref.1 id is.reached)
      (listed_refs repository.refs) (each-ref repository) h

  again : compacted (compacted repository) ≡ compacted repository
  again =
      ap (λ (xs : List Object). record { objects = xs; refs = repository.refs })
      (pass-again (λ (o : Object). set o.id)
      (λ (o : Object). is_referred_to (compacted repository) o.id) (λ o. still-reached o.id) os)

  pub compacted-whole : IsCompacted repository (compacted repository)
  compacted-whole = record {
    refs = refl;
    whole = λ id c is on. those-named set id os on ∙ is;
    only = record {
      same = λ id c. those-were set id os c;
      reached = λ id c. those-on set id os c;
      distinct = distinct_ids left good-left.distinct;
    };
    again = again;
  }

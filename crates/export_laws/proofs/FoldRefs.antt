-- The refs that tags leave, where nothing else sets any.
use Rattle.std.proofs.Common.{◌≡◌, ℕ, suc, ◌≤◌, ◌+◌, true, List, [], ◌∷◌, length, map, Option, None, Some, is_some, refl, sym, ap, ◌∙◌, subst, inl, inr, ◌⊎◌, arith}
use Rattle.std.specs.declared.cmp.Ordering.{Ordering}
use Rattle.std.specs.declared.cmp.Ordering.TheVariants.{Less, Equal, Greater}
use Rattle.std.specs.Ordering.{eq_by_cmp, is_lt, nat_cmp}
use Rattle.std.specs.Cmp.Lexicographic.{slice_cmp}
use Rattle.std.specs.FinMap as finmap
use Rattle.std.specs.FinMap.{contains_key-keys, entries_sorted, get-empty, nat_cmp-IsAntisymmetric, slice_cmp-IsAntisymmetric}
use Rattle.std.specs.FinMap.Entries.{below_all, is_sorted}
use Rattle.std.specs.List.{AllByRecursion, Contains, list_any}
use Rattle.std.specs.List.Sorted.{IsStrictlySortedBy}
use Rattle.std.specs.Str.{bytes_eq}
use Rattle.std.proofs.lemmas.Bool.{cases_Bool, false≢true, leb-true}
use Rattle.std.proofs.lemmas.Cmp.{eq_by_cmp_equiv, nat_list_cmp_total}
use Rattle.std.proofs.lemmas.List.{length-map}
use Rattle.std.proofs.lemmas.Map.Keys.{IsDistinct-from_sorted}
use Rattle.std.proofs.lemmas.Map.Made.{length-le_from_is_member}
use Rattle.std.proofs.lemmas.Map.Views.{list_any-from_Contains}
use Rattle.git_model.specs.GoodRepository.{refs_limit}
use Rattle.git_model.specs.RefStore.{RefMap, RefStore, listed_refs, no_refs, target_of, with_ref}
use Rattle.git_model.specs.Repository.{Object, Repository}
use Rattle.commit_walk.proofs.Orders.{in_order_members}
use Rattle.file_maps.proofs.Apart.{both_true}
use Rattle.file_maps.proofs.Puts.{T-true}
use Rattle.stream_parts.specs.Checkpoints.{by_head, by_tags}
use Rattle.stream_parts.specs.Tags.{PendingTags}
use Rattle.export_text.specs.Reached.{is_exportable, ref_of_tag, reached_objects, reached_tags, tag_refs}
use Rattle.export_laws.specs.Told.{tags_of}
use Rattle.export_laws.proofs.RefsHeld.{bytes-are, target-set}

abbrev text_cmp : List ℕ → List ℕ → Ordering
text_cmp = slice_cmp nat_cmp

-- ---- each ref is that of a tag

-- a ref that is there was set by a tag, or stood before
set-by : (tags : PendingTags) (store : RefStore) (ref id : List ℕ)
    → target_of (by_tags store tags) ref ≡ Some id
    → (Contains (map (λ (tag : List ℕ × List ℕ). tag.0) tags) ref) ⊎ (target_of store ref ≡ Some id)
set-by [] store ref id h = inr h
set-by (tag ∷ tags) store ref id h = elim (set-by tags (with_ref store tag.0 tag.1) ref id h) [
  | inl among ↦ inl (suc among.0, omega (arith, among.1), among.2)
  | inr stood ↦ elim (cases_Bool (bytes_eq ref tag.0)) [
    | inl yea ↦ inl (0, omega arith, sym (bytes-are ref tag.0 yea))
    | inr nay ↦
        let past : target_of (with_ref store tag.0 tag.1) ref ≡ target_of store ref =
        target-set store tag.0 tag.1 ref ∙ (rw nay refl) in
        inr (sym past ∙ stood)
  ]
]

refs-of : (os : List Object)
    → map (λ (tag : List ℕ × List ℕ). tag.0) (map (λ (o : Object). (ref_of_tag o, o.id)) os)
    ≡ map ref_of_tag os
refs-of [] = refl
refs-of (o ∷ os) = ap (λ (l : List (List ℕ)). ref_of_tag o ∷ l) (refs-of os)

abbrev pub refs_of_tags : Repository → RefStore
refs_of_tags repository = by_tags no_refs (tags_of (reached_objects repository))

pub of-tags : (repository : Repository) (ref id : List ℕ)
    → target_of (refs_of_tags repository) ref ≡ Some id → Contains (tag_refs repository) ref
of-tags repository ref id h =
    elim (set-by (tags_of (reached_objects repository)) no_refs ref id h) [
      | inl among ↦
          (in_order_members text_cmp nat_list_cmp_total (slice_cmp-IsAntisymmetric nat_cmp-IsAntisymmetric)
          (map ref_of_tag (reached_tags repository)) ref).1
          (subst (λ (l : List (List ℕ)). Contains l ref) (refs-of (reached_tags repository)) among)
      | inr stood ↦ (let none = get-empty {X = List ℕ} text_cmp ref in cc)
    ]

-- ---- and so they are no more

less : (o : Ordering) → is_lt o ≡ true → o ≡ Less
less Less h = refl
less Equal h = cc
less Greater h = cc

module _ {K X : Type 0} (R : K → K → Ordering) where
  below-keys : (x : K) (es : List (K × X)) → below_all R x es ≡ true
      → AllByRecursion (λ y. R x y ≡ Less) (map (λ (e : K × X). e.0) es)
  below-keys x [] h = tt
  below-keys x (e ∷ es) h =
      let parts = both_true (is_lt (R x e.0)) (below_all R x es) h in
      (less (R x e.0) parts.0, below-keys x es parts.1)

  -- the keys of a map are in their order
  sorted-keys : (es : List (K × X)) → is_sorted R es ≡ true
      → IsStrictlySortedBy R (map (λ (e : K × X). e.0) es)
  unfolding IsStrictlySortedBy
  sorted-keys [] h = tt
  sorted-keys (e ∷ es) h =
      let parts = both_true (below_all R e.0 es) (is_sorted R es) h in
      (below-keys e.0 es parts.0, sorted-keys es parts.1)

found : (refs : RefMap) (q : List ℕ) (o : Option (List ℕ)) → finmap.get refs q ≡ o → is_some o ≡ true
    → (id : List ℕ) × (finmap.get refs q ≡ Some id)
found refs q None e h = absurd (false≢true h)
found refs q (Some id) e h = (id, e)

-- keys that are all among some names are no more than these
no-more : (refs : RefMap) (names : List (List ℕ))
    → ((ref id : List ℕ) → finmap.get refs ref ≡ Some id → Contains names ref)
    → length (finmap.entries refs) ≤ length names
no-more refs names among =
    let le : length (finmap.keys refs) ≤ length names =
    length-le_from_is_member (eq_by_cmp_equiv nat_list_cmp_total) (finmap.keys refs) names
    (IsDistinct-from_sorted text_cmp (finmap.keys refs)
    (sorted-keys text_cmp (finmap.entries refs)
    (T-true (is_sorted text_cmp (finmap.entries refs)) (entries_sorted refs)))) each in
    omega (arith, le, length-map (finmap.entries refs) (λ (e : List ℕ × List ℕ). e.0))
  where
    each : (q : List ℕ) → list_any (eq_by_cmp text_cmp q) (finmap.keys refs) ≡ true
        → list_any (eq_by_cmp text_cmp q) names ≡ true
    each q h =
        let has = found refs q (finmap.get refs q) refl (contains_key-keys refs q ∙ h) in
        list_any-from_Contains (eq_by_cmp_equiv nat_list_cmp_total) q names (among q has.0 has.1)

pub tags-fit : (repository : Repository) → is_exportable repository ≡ true
    → length (listed_refs (refs_of_tags repository)) ≤ refs_limit
tags-fit repository can =
    let few = leb-true (length (listed_refs repository.refs) + length (tag_refs repository)) 65535 can in
    let le = no-more (refs_of_tags repository).refs (tag_refs repository) (of-tags repository) in
    omega (arith, few, le)

-- ---- HEAD

pub head-kept : (tags : PendingTags) (store : RefStore) → (by_tags store tags).head ≡ store.head
head-kept [] store = refl
head-kept (tag ∷ tags) store = head-kept tags (with_ref store tag.0 tag.1)

pub refs-kept : (store : RefStore) (head : Option (List ℕ)) → (by_head store head).refs ≡ store.refs
refs-kept store None = refl
refs-kept store (Some ref) = refl

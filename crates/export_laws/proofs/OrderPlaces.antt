-- Objects of a repository that are added in turn, by their places.
use Rattle.std.proofs.Common.{◌≡◌, ℕ, zero, suc, ◌<◌, ◌≤◌, ◌+◌, Bool, true, false, nat_eq, if◌then◌else◌, List, [], ◌∷◌, ◌++◌, length, take, Some, is_some, refl, sym, ap, ◌∙◌, inl, inr, arith}
use Rattle.std.specs.List.{AllByRecursion, list_any, range_with_len}
use Rattle.std.specs.Cmp.{unsigned_Decides}
use Rattle.std.specs.Prelude.{All}
use Rattle.std.specs.Str.{bytes_eq}
use Rattle.std.proofs.Math.Seq.{take-suc}
use Rattle.std.proofs.lemmas.Bool.{cases_Bool}
use Rattle.std.proofs.lemmas.List.{map-append}
use Rattle.std.proofs.lemmas.List.Elements.{recursion_from_All}
use Rattle.std.proofs.lemmas.List.FromFn.{map-range_with_len_more}
use Rattle.std.proofs.lemmas.Slice.Eq.{bytes_eq-Decides}
use Rattle.git_model.specs.GoodRepository.{AreObjects}
use Rattle.git_model.specs.References.{no_object, object_at, place_of}
use Rattle.git_model.specs.Repository.{Object, object_named, with_object}
use Rattle.git_model.proofs.Places.{first_named, later_named, nothing_named}
use Rattle.commit_walk.proofs.Named.{there}
use Rattle.export_laws.specs.Order.{objects_at, with_named}
use Rattle.export_laws.proofs.OrderNames.{added-named}

module _ (digest : List ℕ → List ℕ) (os : List Object) (good : AreObjects digest os) where
  -- two objects have the same name where they have the same place
  names-agree : (p q : ℕ) → p < length os → q < length os
      → bytes_eq (object_at p os).id (object_at q os).id ≡ nat_eq p q
  names-agree p q lt lt' = elim (cases_Bool (nat_eq p q)) [
    | inl yea ↦
        (bytes_eq-Decides (object_at p os).id (object_at q os).id).1
        (ap (λ (i : ℕ). (object_at i os).id) ((unsigned_Decides p q).0 yea)) ∙ sym yea
    | inr nay ↦ elim (cases_Bool (bytes_eq (object_at p os).id (object_at q os).id)) [
      | inl same ↦
          let at = sym (good.distinct p lt)
          ∙ ap (λ (id : List ℕ). place_of id os) ((bytes_eq-Decides (object_at p os).id (object_at q os).id).0 same)
          ∙ good.distinct q lt' in
          let yea = (unsigned_Decides p q).1 at in cc
      | inr other ↦ other ∙ sym nay
    ]
  ]

  module _ (place : ℕ) (lt : place < length os) where
    abbrev id : List ℕ
    id = (object_at place os).id

    -- an object is among those of some places where its place is
    pub there-by : (places : List ℕ) → AllByRecursion (λ p. p < length os) places
        → is_some (object_named id (objects_at os places)) ≡ list_any (nat_eq place) places
    there-by [] all = ap is_some (nothing_named id)
    there-by (p ∷ places) all = elim (cases_Bool (bytes_eq id (object_at p os).id)) [
      | inl yea ↦
          let same : nat_eq place p ≡ true = sym (names-agree place p lt all.0) ∙ yea in
          rw same (ap is_some (first_named id (object_at p os) (objects_at os places) yea))
      | inr nay ↦
          let other : nat_eq place p ≡ false = sym (names-agree place p lt all.0) ∙ nay in
          rw other (ap is_some (later_named id (object_at p os) (objects_at os places) nay)
          ∙ there-by places all.1)
    ]

    is-named : object_named id os ≡ Some (object_at place os).content
    is-named =
        (there id os (let at = good.distinct place lt in omega (arith, at, lt))).named
        ∙ ap (λ (i : ℕ). Some (object_at i os).content) (good.distinct place lt)

    pub added-by : (places : List ℕ) → All (λ p. p < length os) places
        → with_named os (id ∷ []) (objects_at os places)
        ≡ objects_at os (if list_any (nat_eq place) places then places else places ++ place ∷ [])
    added-by places all =
        sym (added-named os id (object_at place os).content (objects_at os places) is-named)
        ∙ by (list_any (nat_eq place) places) refl
      where
        here : is_some (object_named id (objects_at os places)) ≡ list_any (nat_eq place) places
        here = there-by places (recursion_from_All _ places all)

        by : (b : Bool) → list_any (nat_eq place) places ≡ b
            → with_object id (object_at place os).content (objects_at os places)
            ≡ objects_at os (if list_any (nat_eq place) places then places else places ++ place ∷ [])
        by true e = rw (here, e) refl
        by false e =
            rw (here, e) (sym (map-append (λ (p : ℕ). object_at p os) places (place ∷ [])))

-- ---- the first places

one-longer : (os : List Object) (n : ℕ) → n < length os
    → take (suc n) os ≡ take n os ++ object_at n os ∷ []
unfolding object_at
one-longer os n lt = take-suc os n no_object lt

pub first-places : (os : List Object) (n : ℕ) → n ≤ length os
    → objects_at os (range_with_len 0 n) ≡ take n os
first-places os zero few = refl
first-places os (suc n) few =
    let one_more : suc n ≡ n + 1 = omega arith in
    ap (λ (k : ℕ). objects_at os (range_with_len 0 k)) one_more
    ∙ map-range_with_len_more (λ (p : ℕ). object_at p os) 0 n n (omega arith)
    ∙ ap (λ (l : List Object). l ++ object_at n os ∷ []) (first-places os n (omega (arith, few)))
    ∙ sym (one-longer os n (omega (arith, few)))

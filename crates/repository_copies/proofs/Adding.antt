-- One more place, and the names that came by several steps.
use Rattle.std.proofs.Common.{◌≡◌, ℕ, ◌<◌, Bool, true, false, ◌||◌, nat_eq, if◌then◌else◌, List, [], ◌∷◌, ◌++◌, length, get_or, set, replicate, refl, sym, ap, subst, ◌∙◌, inl, inr, arith}
use Rattle.std.specs.Prelude.{All}
use Rattle.std.specs.Cmp.{unsigned_Decides}
use Rattle.std.specs.List.{IsDistinct, list_any}
use Rattle.std.proofs.lemmas.Bool.{cases_Bool, cases_eq}
use Rattle.std.proofs.lemmas.Cmp.{nat_eq_equiv}
use Rattle.std.proofs.lemmas.Grind.{get_or-set_at}
use Rattle.std.proofs.lemmas.List.{get_or_default, get_or-replicate, get_or-set_other, length-replicate, length-set}
use Rattle.std.proofs.lemmas.List.Elements.{All-nil, All-push}
use Rattle.std.proofs.lemmas.List.Folds.{list_any-append}
use Rattle.std.proofs.lemmas.Map.Keys.{IsDistinct-push}
use Rattle.git_model.specs.GoodRepository.{AreObjects}
use Rattle.git_model.specs.References.{object_at}
use Rattle.git_model.specs.Repository.{Object}
use Rattle.export_laws.specs.Order.{objects_at, with_named}
use Rattle.export_laws.proofs.OrderNames.{named-both}
use Rattle.export_laws.proofs.OrderPlaces.{added-by}
use Rattle.repository_copies.specs.declared.found.Found.{Found}
use Rattle.repository_copies.specs.Found.{Adds, AreFound, found_objects}

-- ---- no places

pub none-found : (os : List Object) (n : ℕ) (found : Found) → length os ≡ n → found.places.items ≡ []
    → found.there.items ≡ replicate n false → AreFound os found
unfolding IsDistinct
none-found os n found size empty blank = record {
  within = subst (All (λ p. p < length os)) (sym empty) (All-nil (λ p. p < length os));
  once = subst (IsDistinct nat_eq) (sym empty) tt;
  size = ap length blank ∙ length-replicate n false ∙ sym size;
  flags = λ place lt.
      ap (λ (fs : List Bool). get_or fs place false) blank
      ∙ get_or-replicate n place false false (omega (arith, size, lt))
      ∙ sym (ap (list_any (nat_eq place)) empty);
}

-- ---- one more place

no-more : (b : Bool) → (b || (false || false)) ≡ b
no-more true = refl
no-more false = refl

one-more : (b : Bool) → (b || (true || false)) ≡ true
one-more true = refl
one-more false = refl

-- the flags, and the places, with one more
flagged-more : (there : List Bool) (places : List ℕ) (place q : ℕ) → place < length there
    → get_or there q false ≡ list_any (nat_eq q) places
    → get_or (set there place true) q false ≡ list_any (nat_eq q) (places ++ place ∷ [])
flagged-more there places place q lt was = elim (cases_eq q place) [
  | inl same ↦
      let yea : nat_eq q place ≡ true = (unsigned_Decides q place).1 same in
      get_or-set_at there place q true false same lt
      ∙ sym (list_any-append (nat_eq q) places (place ∷ [])
      ∙ ap (λ b. list_any (nat_eq q) places || (b || false)) yea ∙ one-more (list_any (nat_eq q) places))
  | inr other ↦
      let nay : nat_eq q place ≡ false = elim (cases_Bool (nat_eq q place)) [
        | inl yea ↦ absurd (other ((unsigned_Decides q place).0 yea))
        | inr nay ↦ nay
      ] in
      get_or-set_other there place q true false other ∙ was
      ∙ sym (list_any-append (nat_eq q) places (place ∷ [])
      ∙ ap (λ b. list_any (nat_eq q) places || (b || false)) nay ∙ no-more (list_any (nat_eq q) places))
]

-- a flag that was read, by another default
pub flag-read : (there : List Bool) (place : ℕ) (flag : Bool) → place < length there
    → flag ≡ get_or there place flag → get_or there place false ≡ flag
flag-read there place flag lt is = get_or_default there place false flag lt ∙ sym is

module _ (digest : List ℕ → List ℕ) (os : List Object) (good : AreObjects digest os) (place : ℕ)
    (lt : place < length os) (before : Found) (are : AreFound os before) where
  abbrev added : Bool → List Object
  added is_there =
      objects_at os (if is_there then before.places.items else before.places.items ++ place ∷ [])

  adds : with_named os ((object_at place os).id ∷ []) (found_objects os before)
      ≡ added (list_any (nat_eq place) before.places.items)
  adds = added-by digest os good place lt before.places.items are.within

  pub stays : get_or before.there.items place false ≡ true
      → Adds os ((object_at place os).id ∷ []) before before
  stays on = record {
    found = are;
    objects = sym (adds ∙ ap added (sym (are.flags place lt) ∙ on));
  }

  pub comes : (after : Found) → get_or before.there.items place false ≡ false
      → after.places.items ≡ before.places.items ++ place ∷ []
      → after.there.items ≡ set before.there.items place true
      → Adds os ((object_at place os).id ∷ []) before after
  comes after off grown flagged = record {
    found = record {
      within =
          subst (All (λ p. p < length os)) (sym grown)
          (All-push (λ p. p < length os) before.places.items place are.within lt);
      once =
          subst (IsDistinct nat_eq) (sym grown)
          (IsDistinct-push nat_eq_equiv before.places.items place are.once new);
      size = ap length flagged ∙ length-set before.there.items place true ∙ are.size;
      flags = λ q within.
          ap (λ (fs : List Bool). get_or fs q false) flagged
          ∙ flagged-more before.there.items before.places.items place q (let n = are.size in omega (arith, n, lt))
          (are.flags q within)
          ∙ sym (ap (list_any (nat_eq q)) grown);
    };
    objects = ap (objects_at os) grown ∙ sym (adds ∙ ap added new);
  }
    where
      new : list_any (nat_eq place) before.places.items ≡ false
      new = sym (are.flags place lt) ∙ off

-- ---- two steps

pub both : (os : List Object) (xs ys : List (List ℕ)) (before mid after : Found)
    → Adds os xs before mid → Adds os ys mid after → Adds os (xs ++ ys) before after
both os xs ys before mid after first later = record {
  found = later.found;
  objects =
      later.objects ∙ ap (with_named os ys) first.objects
      ∙ sym (named-both os xs ys (found_objects os before));
}

-- There is room for each object of a repository beside others of it.
use Rattle.std.proofs.Common.{◌≡◌, ℕ, ◌<◌, ◌≤◌, true, false, List, [], ◌∷◌, ◌++◌, length, map, Option, None, Some, refl, sym, ap, ◌∙◌, subst, inl, inr, arith}
use Rattle.std.specs.Prelude.{is_some}
use Rattle.std.specs.Cmp.{decided}
use Rattle.std.specs.List.{AllByRecursion, IsDistinct, list_any}
use Rattle.std.specs.Str.{bytes_eq}
use Rattle.std.proofs.lemmas.Bool.{cases_Bool, false≢true}
use Rattle.std.proofs.lemmas.List.{length-map, map-append}
use Rattle.std.proofs.lemmas.Map.Made.{length-le_from_is_member}
use Rattle.std.proofs.lemmas.Slice.Eq.{bytes_eq-Decides}
use Rattle.git_model.specs.Content.{Content}
use Rattle.git_model.specs.Repository.{Object, object_named}
use Rattle.git_model.proofs.Places.{first_named, later_named, nothing_named}

abbrev pub ids : List Object → List (List ℕ)
ids os = map (λ (o : Object). o.id) os

-- a name is among those of some objects where one of them is found by it
any-named : (id : List ℕ) (os : List Object) → list_any (bytes_eq id) (ids os) ≡ is_some (object_named id os)
any-named id [] = rw (nothing_named id) refl
any-named id (o ∷ os) = elim (cases_Bool (bytes_eq id o.id)) [
  | inl yea ↦ rw (yea, first_named id o os yea) refl
  | inr nay ↦ rw (nay, later_named id o os nay) (any-named id os)
]

pub turned : (a b : List ℕ) → bytes_eq a b ≡ false → bytes_eq b a ≡ false
turned a b h = elim (cases_Bool (bytes_eq b a)) [
  | inl yea ↦ absurd (false≢true (sym h ∙ (bytes_eq-Decides a b).1 (sym ((bytes_eq-Decides b a).0 yea))))
  | inr nay ↦ nay
]

pub unnamed : (id : List ℕ) (os : List Object) → object_named id os ≡ None
    → AllByRecursion (λ y. bytes_eq id y ≡ false) (ids os)
unnamed id [] none = tt
unnamed id (o ∷ os) none = elim (cases_Bool (bytes_eq id o.id)) [
  | inl yea ↦ (let some = first_named id o os yea in cc)
  | inr nay ↦ (nay, unnamed id os (sym (later_named id o os nay) ∙ none))
]

one-more-distinct : (id : List ℕ) (xs : List (List ℕ))
    → AllByRecursion (λ y. bytes_eq id y ≡ false) xs → IsDistinct bytes_eq xs
    → IsDistinct bytes_eq (id ∷ xs)
unfolding IsDistinct
one-more-distinct id xs first rest = (first, rest)

last-distinct : (id : List ℕ) (xs : List (List ℕ))
    → AllByRecursion (λ y. bytes_eq id y ≡ false) xs → IsDistinct bytes_eq xs
    → IsDistinct bytes_eq (xs ++ id ∷ [])
unfolding IsDistinct
last-distinct id [] other distinct = (tt, tt)
last-distinct id (x ∷ xs) other distinct = (
  later x xs distinct.0 (turned id x other.0),
  last-distinct id xs other.1 distinct.1,
)
  where
    later : (x : List ℕ) (ys : List (List ℕ)) → AllByRecursion (λ y. bytes_eq x y ≡ false) ys
        → bytes_eq x id ≡ false → AllByRecursion (λ y. bytes_eq x y ≡ false) (ys ++ id ∷ [])
    later x [] h last = (last, tt)
    later x (y ∷ ys) h last = (h.0, later x ys h.1 last)

-- one more object, of a new name
pub added-distinct : (o : Object) (os : List Object) → object_named o.id os ≡ None
    → IsDistinct bytes_eq (ids os) → IsDistinct bytes_eq (ids (os ++ o ∷ []))
added-distinct o os none distinct =
    subst (IsDistinct bytes_eq) (sym (map-append (λ (x : Object). x.id) os (o ∷ [])))
    (last-distinct o.id (ids os) (unnamed o.id os none) distinct)

-- objects that are all found among others, and one more that is, are no more than these
pub room : (os held : List Object) → IsDistinct bytes_eq (ids held)
    → ((id : List ℕ) (c : Content) → object_named id held ≡ Some c → is_some (object_named id os) ≡ true)
    → (id : List ℕ) → object_named id held ≡ None → is_some (object_named id os) ≡ true
    → length held < length os
room os held distinct among id none there =
    let le : length (id ∷ ids held) ≤ length (ids os) =
    length-le_from_is_member (decided bytes_eq bytes_eq-Decides) (id ∷ ids held) (ids os)
    (one-more-distinct id (ids held) (unnamed id held none) distinct) each in
    omega (arith, le, length-map held (λ (o : Object). o.id), length-map os (λ (o : Object). o.id))
  where
    by-found : (q : List ℕ) (o : Option Content) → object_named q held ≡ o → is_some o ≡ true
        → list_any (bytes_eq q) (ids os) ≡ true
    by-found q None e h = absurd (false≢true h)
    by-found q (Some c) e h = any-named q os ∙ among q c e

    each : (q : List ℕ) → list_any (bytes_eq q) (id ∷ ids held) ≡ true
        → list_any (bytes_eq q) (ids os) ≡ true
    each q h = elim (cases_Bool (bytes_eq q id)) [
      | inl yea ↦ any-named q os ∙ ap (λ (x : List ℕ). is_some (object_named x os)) ((bytes_eq-Decides q id).0 yea) ∙ there
      | inr nay ↦ by-found q (object_named q held) refl
          (sym (any-named q held) ∙ (rw nay at h))
    ]

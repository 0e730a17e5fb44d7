-- The objects at the places of the missing ones are the missing ones.
use Rattle.std.proofs.Common.{◌≡◌, ℕ, zero, suc, ◌+◌, ◌<◌, ◌≤◌, Bool, true, false, List, [], ◌∷◌, ◌++◌, length, get_or, map, take, filter_map, slice_get, unwrap_or, Option, None, Some, refl, sym, ap, ap₂, ◌∙◌, add-one, append-nil, arith}
use Rattle.std.specs.List.{filter}
use Rattle.std.specs.Option.{option_map}
use Rattle.std.proofs.lemmas.List.{map-append, take_all, take_more}
use Rattle.std.proofs.lemmas.List.Elements.{filter-append, filter_map-append}
use Rattle.std.proofs.lemmas.Option.{get_or_from_slice_get, slice_get-get_or, slice_get-map, unwrap_or-slice_get}
use Rattle.git_model.specs.Content.{Content, no_content}
use Rattle.git_model.specs.HeldObjects.{AreHeld}
use Rattle.git_model.specs.Repository.{Object}
use Rattle.git_model.specs.References.{object_at, no_object, place_of}
use Rattle.missing_objects.specs.Missing.{is_missing, missing, missing_places}
use Rattle.pack_objects.specs.Missing.{told_of}
use Rattle.pack_objects.specs.Packs.{contents_at}
use Rattle.pack_objects.specs.declared.missing_object.MissingObject.{MissingObject}

-- The object at a place is found there.
found-at : (os : List Object) (k : ℕ) → k < length os → slice_get os k ≡ Some (object_at k os)
unfolding object_at
found-at os k there = slice_get-get_or os k no_object there

-- One object more that is told, or none.
pub told-more : (f : ℕ → Option MissingObject) (places : List ℕ) (i d : ℕ) (x : MissingObject) (told new : List MissingObject) → i < length places
    → told ≡ filter_map f (take i places) → Some x ≡ f (get_or places i d) → new ≡ told ++ x ∷ [] → new ≡ filter_map f (take (i + 1) places)
told-more f places i d x told new there so_far found is =
    is ∙ ap (λ l. l ++ x ∷ []) so_far ∙ ap (λ l. filter_map f (take i places) ++ l) (one found)
    ∙ sym (ap (filter_map f) (take_more places i d there) ∙ filter_map-append f (take i places) (get_or places i d ∷ []))
  where
    one : Some x ≡ f (get_or places i d) → x ∷ [] ≡ filter_map f (get_or places i d ∷ [])
    one e = rw (sym e) refl

pub told-same : (f : ℕ → Option MissingObject) (places : List ℕ) (i d : ℕ) (told : List MissingObject) → i < length places
    → told ≡ filter_map f (take i places) → None ≡ f (get_or places i d) → told ≡ filter_map f (take (i + 1) places)
told-same f places i d told there so_far none =
    so_far ∙ sym (append-nil (filter_map f (take i places))) ∙ ap (λ l. filter_map f (take i places) ++ l) (one none)
    ∙ sym (ap (filter_map f) (take_more places i d there) ∙ filter_map-append f (take i places) (get_or places i d ∷ []))
  where
    one : None ≡ f (get_or places i d) → [] ≡ filter_map f (get_or places i d ∷ [])
    one e = rw (sym e) refl

-- The contents at a position.
looked-up : (os : List Object) (places : List ℕ) (position place : ℕ) → slice_get places position ≡ Some place
    → slice_get (contents_at os places) position ≡ Some (object_at place os).content
looked-up os places position place found =
    slice_get-map (λ p. (object_at p os).content) places position
    ∙ ap (λ (o : Option ℕ). option_map (λ p. (object_at p os).content) o) found

pub at-found : (os : List Object) (places : List ℕ) (position place : ℕ) (o : Object) → slice_get places position ≡ Some place
    → Some o ≡ slice_get os place → Some o.content ≡ slice_get (contents_at os places) position
unfolding object_at
at-found os places position place o found is =
    ap (λ (x : Object). Some x.content) (sym (get_or_from_slice_get os place o no_object (sym is))) ∙ sym (looked-up os places position place found)

pub at-none : (os : List Object) (places : List ℕ) (position place : ℕ) → slice_get places position ≡ Some place
    → None ≡ slice_get os place → Some no_content ≡ slice_get (contents_at os places) position
unfolding object_at
at-none os places position place found none =
    ap (λ (x : Object). Some x.content) (ap (λ (o : Option Object). unwrap_or o no_object) none ∙ unwrap_or-slice_get os place no_object)
    ∙ sym (looked-up os places position place found)

module _ (digest : List ℕ → List ℕ) (os : List Object) (held : AreHeld digest os) (wants haves : List (List ℕ)) where
  abbrev m : Object → Bool
  m o = is_missing os wants haves o

  abbrev place : Object → ℕ
  place o = place_of o.id os

  abbrev told_at : ℕ → Option MissingObject
  told_at p = option_map told_of (slice_get os p)

  taken : (k : ℕ) → k < length os → take (k + 1) os ≡ take k os ++ object_at k os ∷ []
  unfolding object_at
  taken k lt = take_more os k no_object lt

  -- What a list has for each missing place is what it has for each missing object.
  module _ (A : Type 0) (listed : List ℕ → List A) (f : Object → A) (none : listed [] ≡ [])
      (append : (x y : List ℕ) → listed (x ++ y) ≡ listed x ++ listed y)
      (one : (k : ℕ) → k < length os → listed (k ∷ []) ≡ f (object_at k os) ∷ []) where
    listed-one : (k : ℕ) → k < length os → (b : Bool) → m (object_at k os) ≡ b
        → listed (map place (filter m (object_at k os ∷ []))) ≡ map f (filter m (object_at k os ∷ []))
    listed-one k lt false is = rw is none
    listed-one k lt true is = rw (is, held.distinct k lt) (one k lt)

    listed-to : (k : ℕ) → k ≤ length os → listed (map place (filter m (take k os))) ≡ map f (filter m (take k os))
    listed-to zero le = none
    listed-to (suc k) le =
        let lt : k < length os = omega arith in
        let x : List Object = take k os in
        let y : List Object = object_at k os ∷ [] in
        let front : take (suc k) os ≡ x ++ y = ap (λ n. take n os) (sym (add-one k)) ∙ taken k lt in
        let parts : filter m (take (suc k) os) ≡ filter m x ++ filter m y = ap (filter m) front ∙ filter-append m x y in
        ap (λ l. listed (map place l)) parts
        ∙ ap listed (map-append place (filter m x) (filter m y))
        ∙ append (map place (filter m x)) (map place (filter m y))
        ∙ ap₂ (λ a b. a ++ b) (listed-to k (omega arith)) (listed-one k lt (m (object_at k os)) refl)
        ∙ sym (map-append f (filter m x) (filter m y))
        ∙ ap (map f) (sym parts)

    listed-all : listed (missing_places os wants haves) ≡ map f (missing os wants haves)
    listed-all =
        let all = take_all (length os) os (omega arith) in
        ap (λ l. listed (map place (filter m l))) (sym all) ∙ listed-to (length os) (omega arith)
        ∙ ap (λ l. map f (filter m l)) all

  -- What is told of these places is told of the missing objects.
  pub missing-told : filter_map told_at (missing_places os wants haves) ≡ map told_of (missing os wants haves)
  missing-told =
      listed-all MissingObject (filter_map told_at) told_of refl (filter_map-append told_at) (λ k lt. rw (found-at os k lt) refl)

  -- The contents at these places are those of the missing objects.
  pub missing-contents : (places : List ℕ) → places ≡ missing_places os wants haves
      → contents_at os places ≡ map (λ o. o.content) (missing os wants haves)
  missing-contents places are =
      ap (contents_at os) are
      ∙ listed-all Content (contents_at os) (λ o. o.content) refl (map-append (λ p. (object_at p os).content)) (λ k lt. refl)

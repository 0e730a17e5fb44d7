-- Open places, one more at a time, and those of the missing objects.
use Rattle.std.proofs.Common.{◌≡◌, ℕ, zero, suc, ◌+◌, ◌<◌, ◌≤◌, Bool, true, false, cond, List, [], ◌∷◌, ◌++◌, length, map, take, refl, sym, ap, ◌∙◌, inl, inr, arith, add-one, append-nil}
use Rattle.std.specs.List.{filter}
use Rattle.std.proofs.lemmas.Bool.{cases_Bool}
use Rattle.std.proofs.lemmas.List.{map-append, take_all, take_more}
use Rattle.std.proofs.lemmas.List.Elements.{filter-append}
use Rattle.git_model.specs.Repository.{Object}
use Rattle.git_model.specs.References.{object_at, no_object, place_of}
use Rattle.git_model.specs.HeldObjects.{AreHeld}
use Rattle.missing_objects.specs.Marks.{Marks, is_open, open_places}
use Rattle.missing_objects.specs.Missing.{is_missing, missing_places}
use Rattle.missing_objects.proofs.Opens.{opens}

places-zero : (m : Marks) → open_places m 0 ≡ []
unfolding open_places
places-zero m = refl

places-suc : (m : Marks) (n : ℕ)
    → open_places m (n + 1) ≡ open_places m n ++ cond (is_open m n) (n ∷ []) []
unfolding open_places
places-suc m n = ap (open_places m) (add-one n)

pub places-more : (m : Marks) (n : ℕ) → is_open m n ≡ true
    → open_places m (n + 1) ≡ open_places m n ++ n ∷ []
places-more m n is =
    places-suc m n ∙ ap (λ (b : Bool). open_places m n ++ cond b (n ∷ []) []) is

pub places-same : (m : Marks) (n : ℕ) → is_open m n ≡ false → open_places m (n + 1) ≡ open_places m n
places-same m n is =
    places-suc m n ∙ ap (λ (b : Bool). open_places m n ++ cond b (n ∷ []) []) is ∙ append-nil (open_places m n)

pub no-places : (m : Marks) (n : ℕ) → opens m n ≡ 0 → open_places m n ≡ []
no-places m n none = empty (open_places m n) none
  where
    empty : (ps : List ℕ) → length ps ≡ 0 → ps ≡ []
    empty [] e = refl
    empty (p ∷ ps) e = absurd (omega arith)

module _ (digest : List ℕ → List ℕ) (os : List Object) (held : AreHeld digest os)
    (wants haves : List (List ℕ)) (m : Marks)
    (settled : (p : ℕ) → p < length os → is_open m p ≡ is_missing os wants haves (object_at p os)) where
  abbrev place : Object → ℕ
  place o = place_of o.id os

  abbrev among : List Object → List ℕ
  among xs = map place (filter (is_missing os wants haves) xs)

  among-append : (xs ys : List Object) → among (xs ++ ys) ≡ among xs ++ among ys
  among-append xs ys =
      ap (map place) (filter-append (is_missing os wants haves) xs ys)
      ∙ map-append place (filter (is_missing os wants haves) xs) (filter (is_missing os wants haves) ys)

  one : (o : Object) (k : ℕ) (b : Bool) → is_missing os wants haves o ≡ b → place o ≡ k
      → among (o ∷ []) ≡ cond b (k ∷ []) []
  one o k true is at = ap (map place) kept ∙ ap (λ p. p ∷ []) at
    where
      kept : filter (is_missing os wants haves) (o ∷ []) ≡ o ∷ []
      kept = rw is refl
  one o k false is at = ap (map place) none
    where
      none : filter (is_missing os wants haves) (o ∷ []) ≡ []
      none = rw is refl

  taken : (k : ℕ) → k < length os → take (k + 1) os ≡ take k os ++ object_at k os ∷ []
  unfolding object_at
  taken k lt = take_more os k no_object lt

  listed : (k : ℕ) → k ≤ length os → open_places m k ≡ among (take k os)
  listed zero le = places-zero m
  listed (suc k) le =
      let lt : k < length os = omega arith in
      ap (open_places m) (sym (add-one k)) ∙ places-suc m k
      ∙ ap (λ ps. ps ++ cond (is_open m k) (k ∷ []) []) (listed k (omega arith))
      ∙ ap (λ ps. among (take k os) ++ ps)
      (sym (one (object_at k os) k (is_open m k) (sym (settled k lt)) (held.distinct k lt)))
      ∙ sym (among-append (take k os) (object_at k os ∷ []))
      ∙ ap among (sym (taken k lt)) ∙ ap (λ n. among (take n os)) (add-one k)

  pub all-listed : open_places m (length os) ≡ missing_places os wants haves
  all-listed = listed (length os) (omega arith) ∙ ap among (take_all (length os) os (omega arith))

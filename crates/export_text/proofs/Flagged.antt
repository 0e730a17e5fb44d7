-- Objects that have a flag, one more at a time.
use Rattle.std.proofs.Common.{◌≡◌, ℕ, ◌+◌, ◌<◌, arith, Bool, true, false, List, [], ◌∷◌, ◌++◌, length, get_or, map, take, refl, sym, ap, ◌∙◌, append-nil}
use Rattle.std.specs.List.{filter}
use Rattle.std.proofs.lemmas.List.{get_or-map, length-map, map-append, take_more}
use Rattle.std.proofs.lemmas.List.Elements.{filter-append}
use Rattle.git_model.specs.Repository.{Object}
use Rattle.git_model.specs.References.{object_at, no_object}

module _ (os : List Object) (set : Object → Bool) (flags : List Bool) (i : ℕ)
    (are : flags ≡ map set os) (lt : i < length flags) where
  pub within : i < length os
  within = let n = ap length are in let m = length-map os set in omega (arith, lt, n, m)

  flag : get_or flags i false ≡ set (object_at i os)
  unfolding object_at
  flag = ap (λ (fs : List Bool). get_or fs i false) are ∙ get_or-map set os i no_object false within

  next : filter set (take (i + 1) os) ≡ filter set (take i os) ++ filter set (object_at i os ∷ [])
  unfolding object_at
  next = ap (filter set) (take_more os i no_object within) ∙ filter-append set (take i os) (object_at i os ∷ [])

  pub kept-one : get_or flags i false ≡ true
      → filter set (take (i + 1) os) ≡ filter set (take i os) ++ object_at i os ∷ []
  kept-one on = next ∙ ap (λ last. filter set (take i os) ++ last) one
    where
      one : filter set (object_at i os ∷ []) ≡ object_at i os ∷ []
      one = rw (sym flag ∙ on) refl

  pub kept-none : get_or flags i false ≡ false → filter set (take (i + 1) os) ≡ filter set (take i os)
  kept-none off = next ∙ ap (λ last. filter set (take i os) ++ last) none ∙ append-nil _
    where
      none : filter set (object_at i os ∷ []) ≡ []
      none = rw (sym flag ∙ off) refl

-- ---- what the objects of a kind give, one object more

pub tags-more : {X : Type 0} (f : Object → X) (p : Object → Bool) (xs ys : List Object) (o : Object)
    → ys ≡ xs ++ o ∷ []
    → map f (filter p xs) ++ map f (filter p (o ∷ [])) ≡ map f (filter p ys)
tags-more f p xs ys o grown =
    sym (map-append f (filter p xs) (filter p (o ∷ [])))
    ∙ ap (map f) (sym (filter-append p xs (o ∷ []))) ∙ ap (λ zs. map f (filter p zs)) (sym grown)

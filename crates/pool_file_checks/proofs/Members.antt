-- What stands in a list, by recursion on the list.
use Rattle.std.proofs.Common.{◌≡◌, ℕ, zero, suc, ◌<◌, List, [], ◌∷◌, ◌++◌, map, length, get_or, refl, sym, ap, subst, inl, inr, arith}
use Rattle.std.specs.Prelude.{◌⊎◌, All}
use Rattle.std.specs.List.{flat_map, Contains}
use Rattle.std.proofs.lemmas.List.Elements.{All-head, All-tail}

abbrev pub Has : {A : Type 0} → List A → A → Type 0
Has [] x = ⊥
Has (y ∷ ys) x = (y ≡ x) ⊎ Has ys x

module _ {A : Type 0} where
  pub has_left : (xs ys : List A) (x : A) → Has xs x → Has (xs ++ ys) x
  has_left [] ys x h = absurd h
  has_left (z ∷ zs) ys x (inl e) = inl e
  has_left (z ∷ zs) ys x (inr h) = inr (has_left zs ys x h)

  pub has_right : (xs ys : List A) (x : A) → Has ys x → Has (xs ++ ys) x
  has_right [] ys x h = h
  has_right (z ∷ zs) ys x h = inr (has_right zs ys x h)

  pub has_either : (xs ys : List A) (x : A) → Has (xs ++ ys) x → Has xs x ⊎ Has ys x
  has_either [] ys x h = inr h
  has_either (z ∷ zs) ys x (inl e) = inl (inl e)
  has_either (z ∷ zs) ys x (inr h) =
      elim (has_either zs ys x h) [ inl a ↦ inl (inr a) | inr b ↦ inr b ]

  pub has_at : (xs : List A) (n : ℕ) (d : A) → n < length xs → Has xs (get_or xs n d)
  has_at [] n d less = absurd (omega (arith, less))
  has_at (x ∷ xs) zero d less = inl refl
  has_at (x ∷ xs) (suc n) d less = inr (has_at xs n d (omega (arith, less)))

  -- what stands in a list stands at a place of it
  pub record IsAt (xs : List A) (x : A) : Type 0 where
    pub place : ℕ
    pub within : place < length xs
    pub is : (d : A) → get_or xs place d ≡ x

  pub place_of_has : (xs : List A) (x : A) → Has xs x → IsAt xs x
  place_of_has [] x h = absurd h
  place_of_has (y ∷ ys) x (inl e) = record { place = 0; within = omega arith; is = λ d. e }
  place_of_has (y ∷ ys) x (inr h) = let a = place_of_has ys x h in record {
    place = suc a.place;
    within = let w = a.within in omega (arith, w);
    is = a.is;
  }

  pub has_contained : (xs : List A) (x : A) → Contains xs x → Has xs x
  has_contained xs x c = subst (λ (y : A). Has xs y) c.2 (has_at xs c.0 x c.1)

  pub contained : (xs : List A) (x : A) → Has xs x → Contains xs x
  contained xs x h = let a = place_of_has xs x h in (a.place, a.within, a.is x)

  pub all_has : (P : A → Type 0) (xs : List A) (x : A) → All P xs → Has xs x → P x
  all_has P [] x all h = absurd h
  all_has P (y ∷ ys) x all (inl e) = subst P e (All-head P y ys all)
  all_has P (y ∷ ys) x all (inr h) = all_has P ys x (All-tail P y ys all) h

  pub all_from_has : (P : A → Type 0) (xs : List A) → ((x : A) → Has xs x → P x) → All P xs
  all_from_has P xs each = λ k d less. each (get_or xs k d) (has_at xs k d less)

module _ {A B : Type 0} (f : A → B) where
  pub has_map : (xs : List A) (x : A) → Has xs x → Has (map f xs) (f x)
  has_map [] x h = absurd h
  has_map (y ∷ ys) x (inl e) = inl (ap f e)
  has_map (y ∷ ys) x (inr h) = inr (has_map ys x h)

  pub record IsFrom (xs : List A) (y : B) : Type 0 where
    pub from : A
    pub there : Has xs from
    pub is : f from ≡ y

  pub from_map : (xs : List A) (y : B) → Has (map f xs) y → IsFrom xs y
  from_map [] y h = absurd h
  from_map (x ∷ xs) y (inl e) = record { from = x; there = inl refl; is = e }
  from_map (x ∷ xs) y (inr h) = let r = from_map xs y h in
      record { from = r.from; there = inr r.there; is = r.is }

module _ {A B : Type 0} (f : A → List B) where
  pub has_flat_map : (xs : List A) (x : A) (y : B) → Has xs x → Has (f x) y
      → Has (flat_map f xs) y
  has_flat_map [] x y h k = absurd h
  has_flat_map (z ∷ zs) x y (inl e) k =
      has_left (f z) (flat_map f zs) y (subst (λ (a : A). Has (f a) y) (sym e) k)
  has_flat_map (z ∷ zs) x y (inr h) k =
      has_right (f z) (flat_map f zs) y (has_flat_map zs x y h k)

  pub record IsOf (xs : List A) (y : B) : Type 0 where
    pub of : A
    pub there : Has xs of
    pub has : Has (f of) y

  pub of_flat_map : (xs : List A) (y : B) → Has (flat_map f xs) y → IsOf xs y
  of_flat_map [] y h = absurd h
  of_flat_map (x ∷ xs) y h = elim (has_either (f x) (flat_map f xs) y h) [
    | inl a ↦ record { of = x; there = inl refl; has = a }
    | inr b ↦ let r = of_flat_map xs y b in
        record { of = r.of; there = inr r.there; has = r.has }
  ]

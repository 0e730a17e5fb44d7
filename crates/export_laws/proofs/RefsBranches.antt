-- Entries by their names, as branches are kept: what one more of them changes.
use Rattle.std.proofs.Common.{◌≡◌, ℕ, suc, ◌≤◌, Bool, true, false, cond, List, [], ◌∷◌, length, None, Some, refl, ap, ◌∙◌, inl, inr, arith}
use Rattle.std.specs.List.{AllByRecursion, IsDistinct}
use Rattle.std.specs.Map.{keys_of, lookup}
use Rattle.std.specs.Str.{bytes_eq}
use Rattle.std.proofs.lemmas.Bool.{cases_Bool}
use Rattle.indexmap.specs.IndexMap.{insert_entry}
use Rattle.export_laws.proofs.RefsHeld.{bytes-are}
use Rattle.export_laws.proofs.Room.{turned}

pub twice : {A : Type 0} (b : Bool) (x y z : A) → cond b x z ≡ cond b x (cond b y z)
twice true x y z = refl
twice false x y z = refl

module _ {X : Type 0} where
  -- what is found under each name
  pub placed-found : (es : List (List ℕ × X)) (ref : List ℕ) (x : X) (q : List ℕ)
      → lookup (bytes_eq q) (insert_entry bytes_eq es ref x)
      ≡ cond (bytes_eq q ref) (Some x) (lookup (bytes_eq q) es)
  placed-found [] ref x q = refl
  placed-found (e ∷ es) ref x q = elim (cases_Bool (bytes_eq ref e.0)) [
    | inl yea ↦
        let one : bytes_eq q ref ≡ bytes_eq q e.0 = ap (bytes_eq q) (bytes-are ref e.0 yea) in
        rw (yea, one) (twice (bytes_eq q e.0) (Some x) (Some e.1) (lookup (bytes_eq q) es))
    | inr nay ↦ elim (cases_Bool (bytes_eq q e.0)) [
      | inl here ↦
          let no : bytes_eq q ref ≡ false =
          ap (λ (y : List ℕ). bytes_eq y ref) (bytes-are q e.0 here) ∙ turned ref e.0 nay in
          rw (nay, here, no) refl
      | inr past ↦ rw (nay, past) (placed-found es ref x q)
    ]
  ]

  none-among : (k ref : List ℕ) (x : X) → bytes_eq k ref ≡ false → (es : List (List ℕ × X))
      → AllByRecursion (λ y. bytes_eq k y ≡ false) (keys_of es)
      → AllByRecursion (λ y. bytes_eq k y ≡ false) (keys_of (insert_entry bytes_eq es ref x))
  none-among k ref x other [] h = (other, tt)
  none-among k ref x other (e ∷ es) h = elim (cases_Bool (bytes_eq ref e.0)) [
    | inl yea ↦ rw yea h
    | inr nay ↦ rw nay (h.0, none-among k ref x other es h.1)
  ]

  -- names stay distinct
  pub placed-distinct : (es : List (List ℕ × X)) (ref : List ℕ) (x : X)
      → IsDistinct bytes_eq (keys_of es)
      → IsDistinct bytes_eq (keys_of (insert_entry bytes_eq es ref x))
  unfolding IsDistinct
  placed-distinct [] ref x h = (tt, tt)
  placed-distinct (e ∷ es) ref x h = elim (cases_Bool (bytes_eq ref e.0)) [
    | inl yea ↦ rw yea h
    | inr nay ↦
        rw nay (
          none-among e.0 ref x (turned ref e.0 nay) es h.0,
          placed-distinct es ref x h.1,
        )
  ]

  pub placed-length : (es : List (List ℕ × X)) (ref : List ℕ) (x : X)
      → length (insert_entry bytes_eq es ref x) ≤ suc (length es)
  placed-length [] ref x = omega arith
  placed-length (e ∷ es) ref x = elim (cases_Bool (bytes_eq ref e.0)) [
    | inl yea ↦ rw yea (omega arith)
    | inr nay ↦ let rest = placed-length es ref x in rw nay (omega (arith, rest))
  ]

  -- one that comes before the others is not found among them
  pub none-later : (k : List ℕ) (es : List (List ℕ × X))
      → AllByRecursion (λ y. bytes_eq k y ≡ false) (keys_of es) → lookup (bytes_eq k) es ≡ None
  none-later k [] h = refl
  none-later k (e ∷ es) h = rw h.0 (none-later k es h.1)

  pub first-distinct : (e : List ℕ × X) (es : List (List ℕ × X))
      → IsDistinct bytes_eq (keys_of (e ∷ es))
      → AllByRecursion (λ y. bytes_eq e.0 y ≡ false) (keys_of es) × IsDistinct bytes_eq (keys_of es)
  unfolding IsDistinct
  first-distinct e es h = h

  pub one-distinct : (e : List ℕ × X) → IsDistinct bytes_eq (keys_of (e ∷ []))
  unfolding IsDistinct
  one-distinct e = (tt, tt)

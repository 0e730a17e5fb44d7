-- Objects by their names and by their places.
use Rattle.std.proofs.Common.{◌≡◌, ℕ, ◌<◌, ◌≤◌, List, [], ◌∷◌, length, sym, ap, ◌∙◌, Some, None, inl, inr, arith}
use Rattle.std.specs.Str.{bytes_eq}
use Rattle.std.proofs.lemmas.Bool.{cases_Bool}
use Rattle.std.proofs.lemmas.Slice.Eq.{bytes_eq-Decides}
use Rattle.git_model.specs.Repository.{Object, object_named}
use Rattle.git_model.specs.References.{place_of, object_at}
use Rattle.git_model.proofs.Places.{first_place, later_place, first_object, later_object, first_named, later_named, nothing_named}

-- what stands at the place of a name that is there
pub record IsThere (os : List Object) (id : List ℕ) : Type 0 where
  pub id_is : (object_at (place_of id os) os).id ≡ id
  pub named : object_named id os ≡ Some (object_at (place_of id os) os).content

pub there : (id : List ℕ) (os : List Object) → place_of id os < length os → IsThere os id
there id [] lt = absurd (omega arith)
there id (o ∷ os) lt = elim (cases_Bool (bytes_eq id o.id)) [
  | inl yea ↦
      let at = ap (λ (n : ℕ). object_at n (o ∷ os)) (first_place id o os yea) ∙ first_object o os in
      record {
        id_is = ap (λ (x : Object). x.id) at ∙ sym ((bytes_eq-Decides id o.id).0 yea);
        named = first_named id o os yea ∙ ap (λ (x : Object). Some x.content) (sym at);
      }
  | inr nay ↦
      let place = later_place id o os nay in
      let at = ap (λ (n : ℕ). object_at n (o ∷ os)) place ∙ later_object (place_of id os) o os in
      let rest = there id os (omega (arith, place)) in
      record {
        id_is = ap (λ (x : Object). x.id) at ∙ rest.id_is;
        named = later_named id o os nay ∙ rest.named ∙ ap (λ (x : Object). Some x.content) (sym at);
      }
]

pub not_there : (id : List ℕ) (os : List Object) → length os ≤ place_of id os
    → object_named id os ≡ None
not_there id [] le = nothing_named id
not_there id (o ∷ os) le = elim (cases_Bool (bytes_eq id o.id)) [
  | inl yea ↦ let place = first_place id o os yea in absurd (omega (arith, place))
  | inr nay ↦
      let place = later_place id o os nay in
      later_named id o os nay ∙ not_there id os (omega (arith, place))
]

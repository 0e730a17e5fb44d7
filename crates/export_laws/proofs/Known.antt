-- What is known of an object that stands after some first ones of a good repository.
use Rattle.std.proofs.Common.{◌≡◌, ℕ, suc, ◌<◌, Bool, true, List, [], ◌∷◌, ◌++◌, length, map, All, Option, None, Some, refl, sym, ap, ◌∙◌, subst, inl, inr, arith}
use Rattle.std.specs.Prelude.{IsTrue, unwrap_or}
use Rattle.std.specs.Option.{option_map}
use Rattle.std.specs.List.{AllByRecursion, Contains, list_any}
use Rattle.std.specs.Str.{bytes_eq}
use Rattle.std.proofs.lemmas.Bool.{cases_Bool, or_cases, or_left, or_right}
use Rattle.std.proofs.lemmas.List.{length-append}
use Rattle.std.proofs.lemmas.List.Elements.{All-contains, recursion_from_All}
use Rattle.git_model.proofs.Readables.{objects_are}
use Rattle.git_model.specs.Content.{Content, no_content}
use Rattle.git_model.specs.GoodRepository.{AreObjects, IsObject, StandsBefore}
use Rattle.git_model.specs.Reach.{Reaches, is_reachable, is_referred_to}
use Rattle.git_model.specs.RefStore.{listed_refs}
use Rattle.git_model.specs.References.{Reference, object_at, place_of, references_in, referred_by}
use Rattle.git_model.specs.Repository.{Object, Repository, object_named}
use Rattle.git_model.proofs.Earlier.{place_within, references_fall}
use Rattle.git_model.proofs.Least.{least}
use Rattle.git_model.proofs.Places.{at_place, later_place, first_named, later_named, first_object, later_object}
use Rattle.commit_walk.proofs.Named.{there}

-- ---- first ones, and one after them

object-after : (first rest : List Object) (o : Object)
    → object_at (length first) (first ++ o ∷ rest) ≡ o
object-after [] rest o = first_object o rest
object-after (x ∷ first) rest o =
    later_object (length first) x (first ++ o ∷ rest) ∙ object-after first rest o

-- a name that stands among the first ones is found there
front-named : (id : List ℕ) (xs ys : List Object) → place_of id (xs ++ ys) < length xs
    → object_named id (xs ++ ys) ≡ object_named id xs
front-named id [] ys lt = absurd (omega arith)
front-named id (x ∷ xs) ys lt = elim (cases_Bool (bytes_eq id x.id)) [
  | inl yea ↦ first_named id x (xs ++ ys) yea ∙ sym (first_named id x xs yea)
  | inr nay ↦
      let place = later_place id x (xs ++ ys) nay in
      later_named id x (xs ++ ys) nay ∙ front-named id xs ys (omega (arith, place, lt))
      ∙ sym (later_named id x xs nay)
]

-- What a reference is to stands among the first ones.
pub record IsEarlier (os first : List Object) (r : Reference) : Type 0 where
  pub content : Content
  pub before : object_named r.id first ≡ Some content
  pub here : object_named r.id os ≡ Some content
  pub kind : content.kind ≡ r.kind

earlier : (os first rest : List Object) (n : ℕ) (r : Reference) → os ≡ first ++ rest → n ≡ length first
    → StandsBefore os n r → IsEarlier os first r
earlier os first rest n r is at stands = by (object_named r.id os) refl stands.kind
  where
    same : object_named r.id os ≡ object_named r.id first
    same =
        ap (object_named r.id) is
        ∙ front-named r.id first rest
        (subst (λ (l : List Object). place_of r.id l < length first) is
        (let lt = stands.before in omega (arith, lt, at)))

    by : (found : Option Content) → object_named r.id os ≡ found
        → option_map (λ (c : Content). c.kind) found ≡ Some r.kind → IsEarlier os first r
    by None e k = cc
    by (Some c) e k = record { content = c; before = sym same ∙ e; here = e; kind = cc }

all-turned : {X : Type 0} {P Q : X → Type 0} (xs : List X) → ((x : X) → P x → Q x)
    → AllByRecursion P xs → AllByRecursion Q xs
all-turned [] f h = tt
all-turned (x ∷ xs) f h = (f x h.0, all-turned xs f h.1)

pub record IsKnown (digest : List ℕ → List ℕ) (os first : List Object) (o : Object) : Type 0 where
  pub named : object_named o.id os ≡ Some o.content
  pub is : IsObject digest os o
  pub refers : AllByRecursion (IsEarlier os first) (references_in o.content)
  pub within : length first < length os

pub known : (digest : List ℕ → List ℕ) (os first rest : List Object) (o : Object)
    → AreObjects digest os → os ≡ first ++ o ∷ rest → IsKnown digest os first o
known digest os first rest o good is = record {
  named =
      (there o.id os (omega (arith, lt, place))).named
      ∙ ap (λ (n : ℕ). Some (object_at n os).content) place ∙ ap (λ (x : Object). Some x.content) at;
  is = subst (IsObject digest os) at (at_place (IsObject digest os) os (length first) good.each lt);
  refers =
      all-turned (references_in o.content) (λ r stands. earlier os first (o ∷ rest) (length first) r is refl stands)
      (recursion_from_All (StandsBefore os (length first)) (references_in o.content)
      (subst (λ (x : Object). All (StandsBefore os (length first)) (references_in x.content)) at
      (good.connected (length first) lt)));
  within = lt;
}
  where
    lt : length first < length os
    lt = let l = ap (λ (x : List Object). length x) is in let a = length-append first (o ∷ rest) in omega (arith, l, a)

    at : object_at (length first) os ≡ o
    at = ap (object_at (length first)) is ∙ object-after first rest o

    place : place_of o.id os ≡ length first
    place =
        ap (λ (x : Object). place_of x.id os) (sym at) ∙ good.distinct (length first) lt

-- ---- what a reached object refers to is reached

onward : (leads : List ℕ → List (List ℕ)) (from to next : List ℕ) → Reaches leads from to
    → Contains (leads to) next → Reaches leads from next
onward leads from to next r among = record {
  in_each = λ set starts closed. All-contains (λ b. IsTrue (set b)) (leads to) next
      (closed to (r.in_each set starts closed)) among;
}

any-weaker : {X : Type 0} (p q : X → Bool) (xs : List X) → ((x : X) → p x ≡ true → q x ≡ true)
    → list_any p xs ≡ true → list_any q xs ≡ true
any-weaker p q [] f h = h
any-weaker p q (x ∷ xs) f h = elim (or_cases (p x) (list_any p xs) h) [
  | inl one ↦ or_left (q x) (list_any q xs) (f x one)
  | inr rest ↦ or_right (q x) (list_any q xs) (any-weaker p q xs f rest)
]

from-contained : {X : Type 0} (P : X → Type 0) (xs : List X) → ((x : X) → Contains xs x → P x)
    → AllByRecursion P xs
from-contained P [] f = tt
from-contained P (x ∷ xs) f = (
  f x (0, omega arith, refl),
  from-contained P xs (λ y among. f y (suc among.0, omega (arith, among.1), among.2)),
)

of-mapped : {X Y : Type 0} (f : X → Y) (P : Y → Type 0) (xs : List X) → AllByRecursion P (map f xs)
    → AllByRecursion (λ x. P (f x)) xs
of-mapped f P [] h = tt
of-mapped f P (x ∷ xs) h = (h.0, of-mapped f P xs h.1)

module _ (digest : List ℕ → List ℕ) (repository : Repository) (good : AreObjects digest repository.objects) where
  abbrev leads : List ℕ → List (List ℕ)
  leads = referred_by repository.objects

  one-further : (from id next : List ℕ) → Contains (leads id) next
      → is_reachable repository.objects leads from id ≡ true
      → is_reachable repository.objects leads from next ≡ true
  one-further from id next among h =
      (least leads (λ x. place_of x repository.objects) (references_fall digest repository.objects (objects_are digest repository.objects good))
      (length repository.objects) from next (place_within from repository.objects)).1
      (onward leads from id next
      ((least leads (λ x. place_of x repository.objects) (references_fall digest repository.objects (objects_are digest repository.objects good))
      (length repository.objects) from id (place_within from repository.objects)).0 h) among)

  next-reached : (id next : List ℕ) → is_referred_to repository id ≡ true → Contains (leads id) next
      → is_referred_to repository next ≡ true
  unfolding is_referred_to
  next-reached id next h among =
      any-weaker (λ (ref : List ℕ × List ℕ). is_reachable repository.objects leads ref.1 id)
      (λ (ref : List ℕ × List ℕ). is_reachable repository.objects leads ref.1 next)
      (listed_refs repository.refs) (λ ref. one-further ref.1 id next among) h

  pub reached-on : (id : List ℕ) (c : Content) → object_named id repository.objects ≡ Some c
      → is_referred_to repository id ≡ true
      → AllByRecursion (λ (r : Reference). is_referred_to repository r.id ≡ true) (references_in c)
  reached-on id c is h =
      of-mapped (λ (r : Reference). r.id) (λ next. is_referred_to repository next ≡ true) (references_in c)
      (subst (λ (o : Option Content). AllByRecursion (λ next. is_referred_to repository next ≡ true)
      (map (λ (r : Reference). r.id) (references_in (unwrap_or o no_content)))) is
      (from-contained (λ next. is_referred_to repository next ≡ true) (leads id)
      (λ next among. next-reached id next h among)))

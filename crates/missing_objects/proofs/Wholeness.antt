-- The missing objects: in order, each once, closed and whole.
use Rattle.std.proofs.Common.{◌≡◌, ◌≢◌, ℕ, zero, suc, ◌<◌, ◌≤◌, Bool, true, false, not, ◌&&◌, List, [], ◌∷◌, length, map, get_or, All, None, refl, sym, ap, subst, ◌∙◌, inl, inr, ◌⊎◌, arith}
use Rattle.std.specs.Prelude.{AllPairs, IsTrue, is_some, nat_lt}
use Rattle.std.specs.List.{Contains, filter, list_all}
use Rattle.std.proofs.lemmas.Bool.{cases_Bool, cases_lt}
use Rattle.std.proofs.lemmas.List.Elements.{All-nil, All-cons, All-weaker, Contains-get_or}
use Rattle.std.proofs.lemmas.List.Folds.{list_all_at}
use Rattle.std.proofs.lemmas.List.Kept.{AllPairs-filter}
use Rattle.git_model.specs.HeldObjects.{AreHeld}
use Rattle.git_model.specs.Reach.{IsClosed}
use Rattle.git_model.specs.References.{no_object, object_at, place_of, referred_by}
use Rattle.git_model.specs.Repository.{Object, object_named}
use Rattle.git_model.proofs.Earlier.{place_within, references_fall}
use Rattle.commit_walk.proofs.Named.{there, not_there}
use Rattle.export_text.proofs.Leading.{IsLedTo, led-next}
use Rattle.missing_objects.specs.Missing.{has_all, is_missing, is_reached_by, missing}
use Rattle.missing_objects.proofs.Sweeping.{below-not, below-test, led-reached, reached-led}

same-at : {X : Type 0} (xs : List X) (i : ℕ) (d e : X) → i < length xs → get_or xs i d ≡ get_or xs i e
same-at [] i d e lt = absurd (omega arith)
same-at (x ∷ xs) zero d e lt = refl
same-at (x ∷ xs) (suc i) d e lt = same-at xs i d e (omega arith)

-- ---- what a filter keeps

later : {X : Type 0} (y : X) (ys : List X) (x : X) → Contains ys x → Contains (y ∷ ys) x
later y ys x c = (suc c.0, omega (arith, c.1), c.2)

kept : (test : Object → Bool) (xs : List Object) (k : ℕ) (d : Object) → k < length xs
    → test (get_or xs k d) ≡ true → Contains (map (λ o. o.id) (filter test xs)) (get_or xs k d).id
kept test [] k d lt h = absurd (omega arith)
kept test (x ∷ xs) zero d lt h =
    subst (λ (ys : List Object). Contains (map (λ o. o.id) ys) x.id) (sym one) (0, omega arith, refl)
  where
    one : filter test (x ∷ xs) ≡ x ∷ filter test xs
    one = rw h refl
kept test (x ∷ xs) (suc k) d lt h = elim (cases_Bool (test x)) [
  | inl on ↦
      let one : filter test (x ∷ xs) ≡ x ∷ filter test xs = rw on refl in
      subst (λ (ys : List Object). Contains (map (λ o. o.id) ys) (get_or xs k d).id) (sym one)
      (later x.id (map (λ o. o.id) (filter test xs)) (get_or xs k d).id (kept test xs k d (omega arith) h))
  | inr off ↦
      let none : filter test (x ∷ xs) ≡ filter test xs = rw off refl in
      subst (λ (ys : List Object). Contains (map (λ o. o.id) ys) (get_or xs k d).id) (sym none)
      (kept test xs k d (omega arith) h)
]

passes : (test : Object → Bool) (xs : List Object) → All (λ o. test o ≡ true) (filter test xs)
passes test [] = All-nil (λ o. test o ≡ true)
passes test (x ∷ xs) = elim (cases_Bool (test x)) [
  | inl on ↦
      let one : filter test (x ∷ xs) ≡ x ∷ filter test xs = rw on refl in
      subst (All (λ o. test o ≡ true)) (sym one)
      (All-cons (λ o. test o ≡ true) x (filter test xs) on (passes test xs))
  | inr off ↦
      let none : filter test (x ∷ xs) ≡ filter test xs = rw off refl in
      subst (All (λ o. test o ≡ true)) (sym none) (passes test xs)
]

first-of-both : (a b : Bool) → (a && not b) ≡ true → a ≡ true
first-of-both true b e = refl
first-of-both false b e = cc

module _ (digest : List ℕ → List ℕ) (os : List Object) (held : AreHeld digest os)
    (wants haves : List (List ℕ)) where
  all_in_order : AllPairs (λ (o p : Object). place_of o.id os < place_of p.id os) os
  unfolding object_at
  all_in_order i j d less lt =
      let a = ap (λ (o : Object). place_of o.id os) (same-at os i d no_object (omega arith)) in
      let b = ap (λ (o : Object). place_of o.id os) (same-at os j d no_object lt) in
      let e = held.distinct i (omega arith) in let f = held.distinct j lt in omega arith

  pub in-order : AllPairs (λ (o p : Object). place_of o.id os < place_of p.id os) (missing os wants haves)
  in-order =
      AllPairs-filter (λ (o p : Object). place_of o.id os < place_of p.id os) (is_missing os wants haves) os all_in_order

  pub once : AllPairs (λ (o p : Object). o.id ≢ p.id) (missing os wants haves)
  once i j d less lt = λ same.
      let e = in-order i j d less lt in
      let f = ap (λ (id : List ℕ). place_of id os) same in omega arith

  among : (id : List ℕ) → place_of id os < length os → is_reached_by os wants id ≡ true
      → is_reached_by os haves id ≡ false → Contains (map (λ o. o.id) (missing os wants haves)) id
  unfolding object_at
  among id lt yea nay =
      let is : (get_or os (place_of id os) no_object).id ≡ id = (there id os lt).id_is in
      subst (Contains (map (λ o. o.id) (missing os wants haves))) is
      (kept (is_missing os wants haves) os (place_of id os) no_object lt
      (subst (λ (x : List ℕ). (is_reached_by os wants x && not (is_reached_by os haves x)) ≡ true) (sym is)
      (ap (λ (b : Bool). b && not (is_reached_by os haves id)) yea ∙ ap not nay)))

  either : (id : List ℕ) → place_of id os < length os → is_reached_by os wants id ≡ true
      → (is_reached_by os haves id ≡ true) ⊎ Contains (map (λ o. o.id) (missing os wants haves)) id
  either id lt yea = elim (cases_Bool (is_reached_by os haves id)) [
    | inl on ↦ inl on
    | inr off ↦ inr (among id lt yea off)
  ]

  referred : (o : Object) → is_missing os wants haves o ≡ true
      → All (λ id. (is_reached_by os haves id ≡ true)
      ⊎ Contains (map (λ p. p.id) (missing os wants haves)) id) (referred_by os o.id)
  referred o is =
      let led = reached-led digest os held wants o.id (first-of-both _ _ is) in
      let falls = references_fall digest os held o.id in
      λ k d lt.
      let id : List ℕ = get_or (referred_by os o.id) k d in
      let less = falls k d lt in let whole = place_within o.id os in
      either id (omega arith)
      (led-reached digest os held wants id
      (led-next os wants o.id id led (Contains-get_or (referred_by os o.id) k d lt)))

  pub closed : All (λ o. All (λ id. (is_reached_by os haves id ≡ true)
      ⊎ Contains (map (λ p. p.id) (missing os wants haves)) id) (referred_by os o.id))
      (missing os wants haves)
  closed =
      All-weaker (λ o. is_missing os wants haves o ≡ true)
      (λ o. All (λ id. (is_reached_by os haves id ≡ true)
      ⊎ Contains (map (λ p. p.id) (missing os wants haves)) id) (referred_by os o.id))
      referred (missing os wants haves) (passes (is_missing os wants haves) os)

  -- ---- what the wanted names reach is there

  named-there : (id : List ℕ) → is_some (object_named id os) ≡ true → place_of id os < length os
  named-there id h = elim (cases_lt (place_of id os) (length os)) [
    | inl lt ↦ lt
    | inr past ↦ let e = ap (λ o. is_some o) (not_there id os past) in cc
  ]

  there-closed : IsClosed (referred_by os) (λ id. nat_lt (place_of id os) (length os))
  there-closed id h =
      All-weaker (λ q. place_of q os < place_of id os) (λ b. IsTrue (nat_lt (place_of b os) (length os)))
      (λ b less. let whole = place_within id os in below-test (place_of b os) (length os) (omega arith))
      (referred_by os id) (references_fall digest os held id)

  pub whole : has_all os wants ≡ true → (id : List ℕ) → is_reached_by os wants id ≡ true
      → (is_reached_by os haves id ≡ true) ⊎ Contains (map (λ o. o.id) (missing os wants haves)) id
  whole known id h =
      let led = reached-led digest os held wants id h in
      let first : place_of led.from os < length os = named-there led.from (elim (cases_Bool (is_some (object_named led.from os))) [
        | inl on ↦ on
        | inr off ↦
            let none = list_all_at (λ name. is_some (object_named name os)) wants led.among.0 led.from led.among.1
            (ap (λ (name : List ℕ). is_some (object_named name os)) led.among.2 ∙ off) in cc
      ]) in
      let found = led.reaches.in_each (λ x. nat_lt (place_of x os) (length os))
      (below-test (place_of led.from os) (length os) first) there-closed in
      elim (cases_lt (place_of id os) (length os)) [
        | inl lt ↦ either id lt h
        | inr past ↦ absurd (below-not (place_of id os) (length os) past found)
      ]

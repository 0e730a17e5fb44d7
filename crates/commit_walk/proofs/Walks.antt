-- A walk from late places to early ones marks what a commit reaches.
use Rattle.std.proofs.Common.{◌≡◌, ℕ, suc, ◌+◌, ◌-◌, ◌<◌, ◌≤◌, Bool, true, false, ◌||◌, List, length, get_or, All, inl, inr, ◌⊎◌, sym, subst, arith}
use Rattle.std.specs.Prelude.{nat_lt, IsTrue}
use Rattle.std.specs.List.{Contains}
use Rattle.std.proofs.lemmas.Bool.{or_cases, or_left, or_right, cases_eq, cases_Bool}
use Rattle.std.proofs.lemmas.Bool.Decides.{nat_tests}
use Rattle.std.proofs.lemmas.List.Elements.{All-contains}
use Rattle.git_model.specs.Repository.{Object}
use Rattle.git_model.specs.References.{place_of, object_at, parents_of}
use Rattle.git_model.specs.HeldObjects.{AreHeld}
use Rattle.git_model.specs.Reach.{IsClosed, Reaches}
use Rattle.git_model.proofs.Earlier.{parents_fall}
use Rattle.commit_walk.specs.Marks.{is_marked, IsPlaceOfOne, Marks, IsReached}
use Rattle.commit_walk.proofs.Named.{there}
use Rattle.commit_walk.proofs.Flags.{has_flag, is_flagged, not_flagged}

pub Reaches-itself : {A : Type 0} (leads : A → List A) (a : A) → Reaches leads a a
Reaches-itself leads a = record { in_each = λ set starts closed. starts }

pub Reaches-next : {A : Type 0} (leads : A → List A) (from to next : A) → Reaches leads from to
    → Contains (leads to) next → Reaches leads from next
Reaches-next leads from to next r among = record {
  in_each = λ set starts closed. All-contains (λ b. IsTrue (set b)) (leads to) next
      (closed to (r.in_each set starts closed)) among;
}

abbrev id_at : List Object → ℕ → List ℕ
id_at os p = (object_at p os).id

-- the parents of the commit at a place are marked, but for those below the floor
abbrev HasMarkedParents : List Object → ℕ → List Bool → ℕ → Type 0
HasMarkedParents os floor flags p =
    All (λ id. floor ≤ place_of id os → IsTrue (is_marked floor flags (place_of id os)))
    (parents_of os (object_at p os).id)

-- a walk that has looked at the places with the flags from `from` on
pub record IsWalk (os : List Object) (tip : List ℕ) (floor from : ℕ)
    (flags : List Bool) : Type 0 where
  pub start : IsTrue (is_marked floor flags (place_of tip os))
  pub only : (p : ℕ) → IsTrue (is_marked floor flags p)
      → Reaches (parents_of os) tip (object_at p os).id
  pub done : (p : ℕ) → IsTrue (is_marked floor flags p) → floor + from ≤ p
      → HasMarkedParents os floor flags p

module _ (digest : List ℕ → List ℕ) (os : List Object) (good : AreHeld digest os)
    (tip : List ℕ) (floor : ℕ) where
  module _ (at : ℕ) (old new : List Bool) (seen : floor + length old ≤ length os)
      (here : IsTrue (is_marked floor old (floor + at))) (w : IsWalk os tip floor (suc at) old)
      (m : Marks os floor old new (parents_of os (id_at os (floor + at)))) where
    one_reached : (p : ℕ) → IsPlaceOfOne os (parents_of os (id_at os (floor + at))) p
        → Reaches (parents_of os) tip (id_at os p)
    one_reached p one =
        let lt : place_of one.id os < length os =
        let l = one.within in let e = one.place_is in omega arith in
        let is = (there one.id os lt).id_is in
        let reached = Reaches-next (parents_of os) tip (id_at os (floor + at)) one.id
        (w.only (floor + at) here) one.among in
        subst (λ (q : ℕ). Reaches (parents_of os) tip (id_at os q)) one.place_is
        (subst (λ (x : List ℕ). Reaches (parents_of os) tip x) (sym is) reached)

    has_place : floor + at < floor + length old
    has_place = (has_flag floor old (floor + at) here).within

    parents_before : All (λ q. place_of q os < floor + at) (parents_of os (id_at os (floor + at)))
    parents_before k d lt =
        let here_is = good.distinct (floor + at) (let p = has_place in omega arith) in
        let f = parents_fall digest os good (id_at os (floor + at)) k d lt in omega arith

    still_done : (p : ℕ) → floor + at ≤ p → IsTrue (is_marked floor old p)
        → HasMarkedParents os floor new p
    still_done p from marked = elim (cases_eq (floor + at) p) [
      | inl same ↦ subst (HasMarkedParents os floor new) same
          (λ k d lt above.
          let f = parents_before k d lt in
          let s = m.size in
          let h = has_place in m.all k d lt above (omega arith) (omega arith))
      | inr other ↦ λ k d lt above.
          m.kept (place_of (get_or (parents_of os (id_at os p)) k d) os)
          (w.done p marked (omega arith) k d lt above)
    ]

    none_from_here : (p : ℕ) → floor + at ≤ p
        → IsPlaceOfOne os (parents_of os (id_at os (floor + at))) p → ⊥
    none_from_here p from one =
        let f = All-contains (λ q. place_of q os < floor + at)
        (parents_of os (id_at os (floor + at))) one.id parents_before one.among in
        let e = one.place_is in omega arith

    pub Walk-step : IsWalk os tip floor at new
    Walk-step = record {
      start = m.kept (place_of tip os) w.start;
      only = λ p marked. elim (m.added p marked) [
        | inl old_one ↦ w.only p old_one
        | inr one ↦ one_reached p one
      ];
      done = λ p marked from. elim (m.added p marked) [
        | inl old_one ↦ still_done p from old_one
        | inr one ↦ absurd (none_from_here p from one)
      ];
    }

  pub Walk-skip : (at : ℕ) (flags : List Bool) → is_marked floor flags (floor + at) ≡ false
      → IsWalk os tip floor (suc at) flags → IsWalk os tip floor at flags
  Walk-skip at flags none w = record {
    start = w.start;
    only = w.only;
    done = λ p marked from. elim (cases_eq (floor + at) p) [
      | inl same ↦ let no : is_marked floor flags p ≡ false = rw (← same) none in cc
      | inr other ↦ w.done p marked (omega arith)
    ];
  }

  -- one position down, whose commit has marked its parents or is not marked
  pub Walk-down : (place : ℕ) (old new : List Bool) → floor < place
      → floor + length old ≤ length os → get_or old (place - floor) false ≡ true
      → IsWalk os tip floor (place + 1 - floor) old
      → Marks os floor old new (parents_of os (object_at place os).id)
      → IsWalk os tip floor (place - 1 + 1 - floor) new
  Walk-down place old new above seen flag w m =
      let at : place - 1 + 1 - floor ≡ place - floor = omega arith in
      let from : place + 1 - floor ≡ suc (place - floor) = omega arith in
      let here : place ≡ floor + (place - floor) = omega arith in
      rw at (Walk-step (place - floor) old new seen
      (is_flagged floor old (floor + (place - floor)) (omega arith) (rw (← here) flag))
      (rw from at w)
      (subst (λ (p : ℕ). Marks os floor old new (parents_of os (object_at p os).id)) here m))

  pub Walk-pass : (place : ℕ) (flags : List Bool) → floor < place
      → get_or flags (place - floor) false ≡ false
      → IsWalk os tip floor (place + 1 - floor) flags
      → IsWalk os tip floor (place - 1 + 1 - floor) flags
  Walk-pass place flags above none w =
      let at : place - 1 + 1 - floor ≡ place - floor = omega arith in
      let from : place + 1 - floor ≡ suc (place - floor) = omega arith in
      let here : floor + (place - floor) ≡ place = omega arith in
      rw at (Walk-skip (place - floor) flags
      (not_flagged floor flags (floor + (place - floor)) (rw here none)) (rw from at w))

  -- what is below the floor, or is marked
  held : List Bool → List ℕ → Bool
  held flags id = nat_lt (place_of id os) floor || is_marked floor flags (place_of id os)

  below : (flags : List Bool) (id : List ℕ) → place_of id os < floor → held flags id ≡ true
  unfolding held
  below flags id lt =
      or_left (nat_lt (place_of id os) floor) (is_marked floor flags (place_of id os))
      (grind (arith, nat_tests))

  or_marked : (flags : List Bool) (id : List ℕ)
      → (floor ≤ place_of id os → IsTrue (is_marked floor flags (place_of id os)))
      → held flags id ≡ true
  unfolding held
  or_marked flags id marked = elim (cases_Bool (nat_lt (place_of id os) floor)) [
    | inl yea ↦ or_left _ _ yea
    | inr nay ↦ or_right _ _ (marked (grind (arith, nat_tests, nay)))
  ]

  which : (flags : List Bool) (id : List ℕ) → held flags id ≡ true
      → (place_of id os < floor) ⊎ IsTrue (is_marked floor flags (place_of id os))
  unfolding held
  which flags id h = elim (or_cases (nat_lt (place_of id os) floor) (is_marked floor flags (place_of id os)) h) [
    | inl lower ↦ inl (grind (arith, nat_tests, lower))
    | inr marked ↦ inr marked
  ]

  module _ (flags : List Bool) (seen : floor + length flags ≤ length os)
      (w : IsWalk os tip floor 1 flags) where
    is_closed : IsClosed (parents_of os) (held flags)
    is_closed c in_set k d lt = elim (which flags c in_set) [
      | inl lower ↦ let f = parents_fall digest os good c k d lt in below flags _ (omega arith)
      | inr marked ↦
          let h = has_flag floor flags (place_of c os) marked in
          elim (cases_eq (place_of c os) floor) [
            | inl same ↦ let f = parents_fall digest os good c k d lt in below flags _ (omega arith)
            | inr other ↦
                let at = h.within in
                let from = h.above in
                let is = (there c os (omega arith)).id_is in
                let all = subst (λ (x : List ℕ). All (λ id. floor ≤ place_of id os → IsTrue (is_marked floor flags (place_of id os))) (parents_of os x)) is
                (w.done (place_of c os) marked (omega arith)) in
                or_marked flags _ (all k d lt)
          ]
    ]

    pub Walk-end : IsReached os tip floor flags
    Walk-end = record {
      only = w.only;
      every = λ id above reached. elim (which flags id (reached.in_each (held flags) (or_marked flags tip (λ from. w.start)) is_closed)) [
        | inl lower ↦ absurd (omega arith)
        | inr marked ↦ marked
      ];
    }

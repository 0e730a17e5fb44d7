-- The commits that two commits do not both reach, by one walk from late places to early ones.
use Rattle.std.proofs.Common.{◌≡◌, ℕ, zero, suc, ◌+◌, ◌-◌, ◌<◌, ◌≤◌, Bool, true, false, ◌||◌, ◌&&◌, not, List, [], ◌∷◌, ◌++◌, length, get_or, map, take, replicate, All, inl, inr, ◌⊎◌, refl, sym, ap, subst, ◌∙◌, ◌↔◌, arith}
use Rattle.std.specs.Prelude.{nat_lt, nat_le, IsTrue}
use Rattle.std.specs.List.{Contains, filter}
use Rattle.std.proofs.lemmas.Bool.{and_parts, and_from, or_cases, or_left, or_right, cases_eq, cases_lt, cases_Bool}
use Rattle.std.proofs.lemmas.Bool.Decides.{nat_tests}
use Rattle.std.proofs.lemmas.List.{get_or_default, length-replicate, take_more}
use Rattle.std.proofs.lemmas.List.Elements.{All-nil, All-cons, All-head, All-append, All-weaker, All-contains, All-contains_itself, Contains-append_cases, Contains-append_left, Contains-append_right}
use Rattle.git_model.specs.declared.kind.Kind.TheVariants as kind
use Rattle.git_model.specs.Repository.{Object}
use Rattle.git_model.specs.References.{place_of, object_at, no_object, parents_of}
use Rattle.git_model.specs.HeldObjects.{AreHeld}
use Rattle.git_model.specs.Peeling.{is_of}
use Rattle.git_model.specs.Reach.{IsClosed, Reaches, reaches}
use Rattle.git_model.proofs.Earlier.{parents_fall}
use Rattle.commit_walk.specs.Marks.{is_marked, IsMarkedName, IsPlaceOfOne, Marks, MarksIf}
use Rattle.commit_walk.specs.Ranges.{is_apart, is_apart_in}
use Rattle.commit_walk.specs.Logs.{LogKey, log_key, log_cmp, log_of, in_log_order, AreKeysOf}
use Rattle.commit_walk.proofs.Orders.{in_order_sorted, in_order_members, only_in_order}
use Rattle.commit_walk.proofs.LogOrder.{log_cmp_total, log_cmp_same, contains_mapped, contains_source, filtered, kept_by}
use Rattle.commit_walk.proofs.Named.{there}
use Rattle.commit_walk.proofs.Flags.{has_flag, is_flagged}
use Rattle.commit_walk.proofs.Walks.{IsWalk, Walk-step, Walk-skip, Reaches-itself, Reaches-next}
use Rattle.commit_walk.proofs.Answers.{same_test, reaches_parts, reaches_all, not_after, no_tip}

-- a flag, where there is one for each place
abbrev pub flag_at : List Bool → ℕ → Bool
flag_at flags p = get_or flags p false

marked : (flags : List Bool) (p : ℕ) → flag_at flags p ≡ true → IsTrue (is_marked 0 flags p)
marked flags p on = let same : p - 0 ≡ p = omega arith in
    is_flagged 0 flags p (omega arith) (rw same on)

flagged : (flags : List Bool) (p : ℕ) → IsTrue (is_marked 0 flags p) → flag_at flags p ≡ true
flagged flags p on = let same : p - 0 ≡ p = omega arith in
    let h = (has_flag 0 flags p on).flag in rw same at h

-- ---- one side

-- the flags of one side, whose commits from a place on have marked their parents
pub record IsSide (os : List Object) (tip : List ℕ) (from : ℕ) (flags : List Bool) : Type 0 where
  pub size : length flags ≡ length os
  pub walk : IsTrue (is_of os kind.Commit tip) → IsWalk os tip 0 from flags
  pub none : is_of os kind.Commit tip ≡ false → (p : ℕ) → flag_at flags p ≡ false

-- what more is flagged than before
pub record Adds (os : List Object) (ids : List (List ℕ)) (old new : List Bool) : Type 0 where
  pub kept : (p : ℕ) → flag_at old p ≡ true → flag_at new p ≡ true
  pub added : (p : ℕ) → flag_at new p ≡ true → (flag_at old p ≡ true) ⊎ IsPlaceOfOne os ids p

pub adds : (os : List Object) (ids : List (List ℕ)) (old new : List Bool) (b : Bool)
    → MarksIf b os old new ids → Adds os ids old new
adds os ids old new true m = record {
  kept = λ p on. flagged new p (m.kept p (marked old p on));
  added = λ p on. elim (m.added p (marked new p on)) [
    | inl before ↦ inl (flagged old p before)
    | inr one ↦ inr one
  ];
}
adds os ids old new false same = record {
  kept = λ p on. ap (λ (fs : List Bool). flag_at fs p) same ∙ on;
  added = λ p on. inl (sym (ap (λ (fs : List Bool). flag_at fs p) same) ∙ on);
}

size-if : (os : List Object) (ids : List (List ℕ)) (old new : List Bool) (b : Bool)
    → MarksIf b os old new ids → length new ≡ length old
size-if os ids old new true m = m.size
size-if os ids old new false same = ap length same

module _ (digest : List ℕ → List ℕ) (os : List Object) (good : AreHeld digest os) where
  -- one place down
  pub Side-step : (tip : List ℕ) (at : ℕ) (old new : List Bool) (b : Bool) → b ≡ flag_at old at
      → IsSide os tip (suc at) old → MarksIf b os old new (parents_of os (object_at at os).id)
      → IsSide os tip at new
  Side-step tip at old new true is s m = record {
    size = m.size ∙ s.size;
    walk = λ commit. let same : at ≡ 0 + at = omega arith in
        Walk-step digest os good tip 0 at old new (let e = s.size in omega arith)
        (subst (λ (p : ℕ). IsTrue (is_marked 0 old p)) same (marked old at (sym is))) (s.walk commit)
        (subst (λ (p : ℕ). Marks os 0 old new (parents_of os (object_at p os).id)) same m);
    none = λ nay p. absurd (let off = s.none nay at in cc);
  }
  Side-step tip at old new false is s same = record {
    size = ap length same ∙ s.size;
    walk = λ commit. let here : at ≡ 0 + at = omega arith in
        subst (IsWalk os tip 0 at) (sym same)
        (Walk-skip digest os good tip 0 at old
        (subst (λ (p : ℕ). is_marked 0 old p ≡ false) here (off old at (sym is))) (s.walk commit));
    none = λ nay p. ap (λ (fs : List Bool). flag_at fs p) same ∙ s.none nay p;
  }
    where
      off : (flags : List Bool) (p : ℕ) → flag_at flags p ≡ false → is_marked 0 flags p ≡ false
      off flags p nay = elim (cases_Bool (is_marked 0 flags p)) [
        | inl on ↦ let yea = flagged flags p on in cc
        | inr not_on ↦ not_on
      ]

  -- what is below a place, or is flagged
  held : ℕ → List Bool → List ℕ → Bool
  held place flags id = nat_lt (place_of id os) place || flag_at flags (place_of id os)

  held-below : (place : ℕ) (flags : List Bool) (id : List ℕ) → place_of id os < place
      → held place flags id ≡ true
  unfolding held
  held-below place flags id lt =
      or_left (nat_lt (place_of id os) place) (flag_at flags (place_of id os)) (grind (arith, nat_tests))

  held-flag : (place : ℕ) (flags : List Bool) (id : List ℕ) → flag_at flags (place_of id os) ≡ true
      → held place flags id ≡ true
  unfolding held
  held-flag place flags id on = or_right (nat_lt (place_of id os) place) _ on

  which : (place : ℕ) (flags : List Bool) (id : List ℕ) → held place flags id ≡ true
      → (place_of id os < place) ⊎ (flag_at flags (place_of id os) ≡ true)
  unfolding held
  which place flags id h = elim (or_cases (nat_lt (place_of id os) place) _ h) [
    | inl lower ↦ inl (grind (arith, nat_tests, lower))
    | inr on ↦ inr on
  ]

  in_os : (flags : List Bool) (p : ℕ) → length flags ≡ length os → flag_at flags p ≡ true → p < length os
  in_os flags p size on = let h = (has_flag 0 flags p (marked flags p on)).within in omega arith

  -- the parents of a commit that has been visited are flagged
  parents_flagged : (tip : List ℕ) (from : ℕ) (flags : List Bool) → length flags ≡ length os
      → IsWalk os tip 0 from flags → (c : List ℕ) → flag_at flags (place_of c os) ≡ true
      → from ≤ place_of c os → (next : List ℕ) → Contains (parents_of os c) next
      → flag_at flags (place_of next os) ≡ true
  parents_flagged tip from flags size w c on le next among =
      let is = (there c os (in_os flags (place_of c os) size on)).id_is in
      let all = w.done (place_of c os) (marked flags (place_of c os) on) (omega arith) in
      let here = subst (λ (x : List ℕ). All (λ id. 0 ≤ place_of id os → IsTrue (is_marked 0 flags (place_of id os))) (parents_of os x)) is all in
      flagged flags (place_of next os)
      (All-contains (λ id. 0 ≤ place_of id os → IsTrue (is_marked 0 flags (place_of id os))) (parents_of os c) next here among (omega arith))

  -- what is reached at a visited place, or next to one, is flagged
  every : (tip : List ℕ) (at : ℕ) (flags : List Bool) → length flags ≡ length os
      → IsWalk os tip 0 (suc at) flags → (id : List ℕ) → at ≤ place_of id os
      → Reaches (parents_of os) tip id → flag_at flags (place_of id os) ≡ true
  every tip at flags size w id le reached =
      elim (which at flags id (reached.in_each (held at flags) (held-flag at flags tip (flagged flags (place_of tip os) w.start)) closed)) [
        | inl lower ↦ absurd (omega arith)
        | inr on ↦ on
      ]
    where
      closed : IsClosed (parents_of os) (held at flags)
      closed c in_set k d lt = let fall = parents_fall digest os good c k d lt in
          elim (cases_lt at (place_of c os)) [
            | inl above ↦ elim (which at flags c in_set) [
              | inl lower ↦ held-below at flags _ (omega arith)
              | inr on ↦ held-flag at flags _
                  (parents_flagged tip (suc at) flags size w c on (omega arith) _ (All-contains_itself (parents_of os c) k d lt))
            ]
            | inr low ↦ held-below at flags _ (omega arith)
          ]

  -- only a commit reaches
  commit_of : (tip id : List ℕ) → reaches os tip id ≡ true → IsTrue (is_of os kind.Commit tip)
  unfolding reaches
  commit_of tip id e = (and_parts _ _ (and_parts _ _ e).0).0

  -- what is flagged is reached
  flag_reached : (tip : List ℕ) (from p : ℕ) (flags : List Bool) → IsSide os tip from flags
      → flag_at flags p ≡ true → reaches os tip (object_at p os).id ≡ true
  flag_reached tip from p flags s flag = elim (cases_Bool (is_of os kind.Commit tip)) [
    | inl commit ↦ reaches_all digest os good tip (object_at p os).id commit
        ((s.walk commit).only p (marked flags p flag))
    | inr nay ↦ absurd (let off = s.none nay p in cc)
  ]

  -- a flag at the next place to be visited, or after it, is the test
  pub Side-tells : (tip : List ℕ) (at p : ℕ) (flags : List Bool) → IsSide os tip (suc at) flags
      → at ≤ p → p < length os → flag_at flags p ≡ reaches os tip (object_at p os).id
  Side-tells tip at p flags s le lt =
      same_test (flag_at flags p) (reaches os tip (object_at p os).id) (flag_reached tip (suc at) p flags s)
      (λ e. on (reaches_parts digest os good tip (object_at p os).id e)
      (commit_of tip (object_at p os).id e))
    where
      on : Reaches (parents_of os) tip (object_at p os).id → IsTrue (is_of os kind.Commit tip)
          → flag_at flags p ≡ true
      on reached commit =
          let distinct = good.distinct p lt in
          subst (λ (q : ℕ). flag_at flags q ≡ true) distinct
          (every tip at flags s.size (s.walk commit) (object_at p os).id (rw distinct le) reached)

  -- ---- below the walk

  module _ (old tip : List ℕ) (at : ℕ) (l r : List Bool) (sl : IsSide os old at l) (sr : IsSide os tip at r)
      (joined : (q : ℕ) → q < at → flag_at r q ≡ true → flag_at l q ≡ true) where
    -- what one side has flagged above the place, or the other side reaches
    passed : List ℕ → Bool
    passed id = (nat_le at (place_of id os) && flag_at r (place_of id os)) || reaches os old id

    passed-old : (id : List ℕ) → reaches os old id ≡ true → passed id ≡ true
    unfolding passed
    passed-old id e = or_right (nat_le at (place_of id os) && flag_at r (place_of id os)) _ e

    passed-flag : (id : List ℕ) → flag_at r (place_of id os) ≡ true → passed id ≡ true
    unfolding passed
    passed-flag id on = elim (cases_lt (place_of id os) at) [
      | inl lt ↦
          let flag = joined (place_of id os) lt on in
          let is = (there id os (in_os l (place_of id os) sl.size flag)).id_is in
          passed-old id (subst (λ (x : List ℕ). reaches os old x ≡ true) is
          (flag_reached old at (place_of id os) l sl flag))
      | inr le ↦ or_left (nat_le at (place_of id os) && flag_at r (place_of id os)) (reaches os old id)
          (and_from (nat_le at (place_of id os)) (flag_at r (place_of id os)) (grind (arith, nat_tests)) on)
    ]

    passed-which : (id : List ℕ) → passed id ≡ true
        → ((at ≤ place_of id os) × (flag_at r (place_of id os) ≡ true)) ⊎ (reaches os old id ≡ true)
    unfolding passed
    passed-which id e = elim (or_cases (nat_le at (place_of id os) && flag_at r (place_of id os)) _ e) [
      | inl both ↦
          let parts = and_parts (nat_le at (place_of id os)) _ both in
          let from = parts.0 in
          inl (grind (arith, nat_tests, from), parts.1)
      | inr reached ↦ inr reached
    ]

    passed-closed : IsTrue (is_of os kind.Commit tip) → IsClosed (parents_of os) passed
    passed-closed commit c in_set k d lt =
        let among = All-contains_itself (parents_of os c) k d lt in
        elim (passed-which c in_set) [
          | inl flag ↦ passed-flag _ (parents_flagged tip at r sr.size (sr.walk commit) c flag.1 flag.0 _ among)
          | inr reached ↦ passed-old _ (reaches_all digest os good old _ (commit_of old c reached)
              (Reaches-next (parents_of os) old c _ (reaches_parts digest os good old c reached) among))
        ]

    -- what one side reaches below the place, the other reaches too
    pub both-below : (p : ℕ) → p < at → p < length os → reaches os tip (object_at p os).id ≡ true
        → reaches os old (object_at p os).id ≡ true
    both-below p below lt e =
        let commit = commit_of tip (object_at p os).id e in
        let distinct = good.distinct p lt in
        elim (passed-which (object_at p os).id
        ((reaches_parts digest os good tip (object_at p os).id e).in_each passed
        (passed-flag tip (flagged r (place_of tip os) (sr.walk commit).start)) (passed-closed commit))) [
          | inl flag ↦ let le = flag.0 in absurd (omega arith)
          | inr reached ↦ reached
        ]

-- ---- the lowest place that is left

apart-not : (symmetric a b : Bool) → is_apart symmetric a b ≡ false
    → (b ≡ true → a ≡ true) × (symmetric ≡ true → a ≡ true → b ≡ true)
apart-not symmetric true true e = (λ h. refl, λ h i. refl)
apart-not symmetric false false e = (λ h. h, λ h i. i)
apart-not symmetric false true e = absurd (by symmetric e)
  where
    by : (x : Bool) → is_apart x false true ≡ false → ⊥
    by true f = cc f
    by false f = cc f
apart-not true true false e = cc e
apart-not false true false e = (λ h. refl, λ h i. h)

not-apart : (symmetric a b : Bool) → (b ≡ true → a ≡ true) → (symmetric ≡ true → a ≡ true → b ≡ true)
    → is_apart symmetric a b ≡ false
not-apart true true true f g = refl
not-apart false true true f g = refl
not-apart true false false f g = refl
not-apart false false false f g = refl
not-apart true false true f g = let e = f refl in cc
not-apart false false true f g = let e = f refl in cc
not-apart true true false f g = let e = g refl refl in cc
not-apart false true false f g = refl

-- no commit that the sides do not both reach is flagged below this place
abbrev pub IsLowest : Bool → ℕ → List Bool → List Bool → Type 0
IsLowest symmetric low l r = (q : ℕ) → is_apart symmetric (flag_at l q) (flag_at r q) ≡ true → low ≤ q

-- the place is not after those of names that the sides do not both reach
abbrev pub IsLowestOf : List Object → Bool → ℕ → List Bool → List Bool → List (List ℕ) → Type 0
IsLowestOf os symmetric low l r ids = All (λ id. place_of id os < length os
    → is_apart symmetric (flag_at l (place_of id os)) (flag_at r (place_of id os)) ≡ true
    → low ≤ place_of id os) ids

same-or-one : (os : List Object) (ids : List (List ℕ)) (old new : List Bool) → Adds os ids old new → (q : ℕ)
    → (flag_at old q ≡ flag_at new q) ⊎ IsPlaceOfOne os ids q
same-or-one os ids old new a q = elim (cases_Bool (flag_at new q)) [
  | inl on ↦ elim (a.added q on) [
    | inl before ↦ inl (before ∙ sym on)
    | inr one ↦ inr one
  ]
  | inr off ↦ elim (cases_Bool (flag_at old q)) [
    | inl before ↦ let after = a.kept q before in cc
    | inr before ↦ inl (before ∙ sym off)
  ]
]

pub Lowest-step : (os : List Object) (symmetric : Bool) (low less : ℕ) (l r m s : List Bool) (ids : List (List ℕ))
    → Adds os ids l m → Adds os ids r s → IsLowest symmetric low l r → less ≤ low
    → IsLowestOf os symmetric less m s ids → IsLowest symmetric less m s
Lowest-step os symmetric low less l r m s ids al ar w le all q apart =
    elim (same-or-one os ids l m al q) [
      | inl same_l ↦ elim (same-or-one os ids r s ar q) [
        | inl same_r ↦
            let before = w q (ap (λ (b : Bool). is_apart symmetric b (flag_at r q)) same_l
            ∙ ap (is_apart symmetric (flag_at m q)) same_r ∙ apart) in omega arith
        | inr one ↦ from one
      ]
      | inr one ↦ from one
    ]
  where
    from : IsPlaceOfOne os ids q → less ≤ q
    from one =
        let is = one.place_is in
        let within = one.within in
        let h = All-contains (λ id. place_of id os < length os
        → is_apart symmetric (flag_at m (place_of id os)) (flag_at s (place_of id os)) ≡ true
        → less ≤ place_of id os) ids one.id all one.among in
        let done = h (omega arith) (subst (λ (p : ℕ). is_apart symmetric (flag_at m p) (flag_at s p) ≡ true) (sym is) apart) in
        omega arith

-- ---- the keys so far

pub record IsKeyFrom (os : List Object) (set : List ℕ → Bool) (from : ℕ) (k : LogKey) : Type 0 where
  pub place : ℕ
  pub above : from ≤ place
  pub within : place < length os
  pub member : set (object_at place os).id ≡ true
  pub key : k ≡ log_key os (object_at place os).id

-- they are those of the members from a place on
abbrev pub AreKeysFrom : List Object → (List ℕ → Bool) → ℕ → List LogKey → Type 0
AreKeysFrom os set from keys = (k : LogKey) → Contains keys k ↔ IsKeyFrom os set from k

module _ (os : List Object) (set : List ℕ → Bool) where
  lower : (at : ℕ) (k : LogKey) → IsKeyFrom os set (suc at) k → IsKeyFrom os set at k
  lower at k h = record {
    place = h.place;
    above = let a = h.above in omega arith;
    within = h.within;
    member = h.member;
    key = h.key;
  }

  raise : (at : ℕ) (k : LogKey) (h : IsKeyFrom os set at k) → (at ≡ h.place → ⊥) → IsKeyFrom os set (suc at) k
  raise at k h other = record {
    place = h.place;
    above = elim (cases_eq at h.place) [
      | inl same ↦ absurd (other same)
      | inr not_same ↦ let a = h.above in omega arith
    ];
    within = h.within;
    member = h.member;
    key = h.key;
  }

  pub Keys-pass : (at : ℕ) (keys : List LogKey) → set (object_at at os).id ≡ false
      → AreKeysFrom os set (suc at) keys → AreKeysFrom os set at keys
  Keys-pass at keys nay are k = (
    λ c. lower at k ((are k).0 c),
    λ h. (are k).1 (raise at k h (λ same.
        let yea = h.member in
        let off : set (object_at h.place os).id ≡ false = ap (λ (p : ℕ). set (object_at p os).id) (sym same) ∙ nay in cc)),
  )

  pub Keys-put : (at : ℕ) (old new : List LogKey) → at < length os → set (object_at at os).id ≡ true
      → new ≡ old ++ log_key os (object_at at os).id ∷ []
      → AreKeysFrom os set (suc at) old → AreKeysFrom os set at new
  Keys-put at old new lt yea is are k = subst (λ (keys : List LogKey). Contains keys k ↔ IsKeyFrom os set at k) (sym is) (
    λ c. elim (Contains-append_cases old (log_key os (object_at at os).id ∷ []) k c) [
      | inl before ↦ lower at k ((are k).0 before)
      | inr here ↦ record {
        place = at;
        above = omega arith;
        within = lt;
        member = yea;
        key = one (log_key os (object_at at os).id) here;
      }
    ],
    λ h. elim (cases_eq at h.place) [
      | inl same ↦ Contains-append_right old (log_key os (object_at at os).id ∷ []) k
          (0, omega arith, sym (h.key ∙ ap (λ (p : ℕ). log_key os (object_at p os).id) (sym same)))
      | inr other ↦ Contains-append_left old (log_key os (object_at at os).id ∷ []) k
          ((are k).1 (raise at k h other))
    ],
  )
    where
      one : (x : LogKey) → Contains (x ∷ []) k → k ≡ x
      one x (zero, within, here) = sym here
      one x (suc n, within, here) = absurd (omega arith)

  pub Keys-none : (from : ℕ) → ((p : ℕ) → from ≤ p → p < length os → set (object_at p os).id ≡ false)
      → AreKeysFrom os set from []
  Keys-none from nay k = (
    λ c. absurd (let lt = c.1 in omega arith),
    λ h. absurd (let yea = h.member in let off = nay h.place h.above h.within in cc),
  )

  pub Keys-all : (from : ℕ) (keys : List LogKey)
      → ((p : ℕ) → p < from → p < length os → set (object_at p os).id ≡ false)
      → AreKeysFrom os set from keys → AreKeysOf os set keys
  unfolding object_at
  Keys-all from keys nay are k = (
    λ c.
        let h = (are k).0 c in
        subst (Contains (map (λ (o : Object). log_key os o.id) (filter (λ (o : Object). set o.id) os))) (sym h.key)
        (contains_mapped (λ (o : Object). log_key os o.id) (filter (λ (o : Object). set o.id) os) (object_at h.place os)
        (kept_by (λ (o : Object). set o.id) os (object_at h.place os) (All-contains_itself os h.place no_object h.within) h.member)),
    λ c.
        let o = contains_source (λ (o : Object). log_key os o.id) (filter (λ (o : Object). set o.id) os) k c in
        let f = filtered (λ (o : Object). set o.id) os o.0 o.1 in
        (are k).1 (at f.0.0 f.0.1 o.0 (found o.0 f.0) f.1 o.2),
  )
    where
      found : (o : Object) (c : Contains os o) → object_at c.0 os ≡ o
      found o c = get_or_default os c.0 no_object o c.1 ∙ c.2

      at : (p : ℕ) → p < length os → (o : Object) → object_at p os ≡ o → set o.id ≡ true
          → log_key os o.id ≡ k → IsKeyFrom os set from k
      at p lt o is yea key =
          let member : set (object_at p os).id ≡ true = ap (λ (x : Object). set x.id) is ∙ yea in
          record {
            place = p;
            above = elim (cases_lt p from) [
              | inl below ↦ let off = nay p below lt in absurd (cc)
              | inr le ↦ le
            ];
            within = lt;
            member = member;
            key = sym key ∙ ap (λ (x : Object). log_key os x.id) (sym is);
          }

  -- keys of a set in order are its log
  pub keys_log : (keys : List LogKey) → AreKeysOf os set keys
      → map (λ (k : LogKey). k.id) (in_log_order keys) ≡ log_of os set
  unfolding log_of
  keys_log keys are =
      ap (map (λ (k : LogKey). k.id))
      (only_in_order log_cmp log_cmp_total log_cmp_same
      (map (λ (o : Object). log_key os o.id) (filter (λ (o : Object). set o.id) os)) (in_log_order keys)
      (in_order_sorted log_cmp log_cmp_total log_cmp_same keys)
      (λ q. (
        λ c. (are q).0 ((in_order_members log_cmp log_cmp_total log_cmp_same keys q).0 c),
        λ c. (in_order_members log_cmp log_cmp_total log_cmp_same keys q).1 ((are q).1 c),
      )))

-- ---- where the walk begins

blank-off : (os : List Object) (blank : List Bool) → blank ≡ replicate (length os) false → (p : ℕ)
    → flag_at blank p ≡ false
blank-off os blank is p = ap (λ (fs : List Bool). flag_at fs p) is ∙ none (length os) p
  where
    none : (n k : ℕ) → get_or (replicate n false) k false ≡ false
    none zero k = refl
    none (suc n) zero = refl
    none (suc n) (suc k) = none n k

module _ (os : List Object) (tip : List ℕ) (top : ℕ) (blank new : List Bool)
    (is : blank ≡ replicate (length os) false)
    (above : is_of os kind.Commit tip ≡ true → place_of tip os < top) (within : top ≤ length os) where
  begun-size : (b : Bool) → MarksIf b os blank new (tip ∷ []) → length new ≡ length os
  begun-size b m = size-if os (tip ∷ []) blank new b m ∙ ap length is ∙ length-replicate (length os) false

  module _ (commit : is_of os kind.Commit tip ≡ true) (m : Marks os 0 blank new (tip ∷ [])) where
    in_top : place_of tip os < top
    in_top = above commit

    at-tip : (p : ℕ) → IsTrue (is_marked 0 new p) → p ≡ place_of tip os
    at-tip p on = elim (m.added p on) [
      | inl before ↦ let flag = flagged blank p before in let off = blank-off os blank is p in absurd (cc)
      | inr one ↦ sym one.place_is ∙ ap (λ (x : List ℕ). place_of x os) (only one.id one.among)
    ]
      where
        only : (x : List ℕ) → Contains (tip ∷ []) x → x ≡ tip
        only x (zero, lt, here) = sym here
        only x (suc n, lt, here) = absurd (omega arith)

    begun-walk : length new ≡ length os → IsWalk os tip 0 top new
    begun-walk size = record {
      start = All-head (IsMarkedName os 0 new) tip [] m.all (omega arith)
          (let lt = in_top in omega arith) (let lt = in_top in omega arith);
      only = λ p on.
          let lt : place_of tip os < length os = let low = in_top in omega arith in
          subst (λ (q : ℕ). Reaches (parents_of os) tip (object_at q os).id) (sym (at-tip p on))
          (subst (λ (x : List ℕ). Reaches (parents_of os) tip x) (sym (there tip os lt).id_is)
          (Reaches-itself (parents_of os) tip));
      done = λ p on from. let at = at-tip p on in let low = in_top in absurd (omega arith);
    }

  begun-by : (b : Bool) → is_of os kind.Commit tip ≡ b → MarksIf b os blank new (tip ∷ [])
      → IsSide os tip top new
  begun-by true e m = record {
    size = begun-size true m;
    walk = λ commit. begun-walk e m (begun-size true m);
    none = λ nay p. absurd (cc);
  }
  begun-by false e same = record {
    size = begun-size false same;
    walk = λ commit. absurd (cc);
    none = λ nay p. ap (λ (fs : List Bool). flag_at fs p) same ∙ blank-off os blank is p;
  }

  pub Side-begin : MarksIf (is_of os kind.Commit tip) os blank new (tip ∷ []) → IsSide os tip top new
  Side-begin m = begun-by (is_of os kind.Commit tip) refl m

-- a later place to begin at
pub Side-later : (os : List Object) (tip : List ℕ) (top more : ℕ) (flags : List Bool) → top ≤ more
    → IsSide os tip top flags → IsSide os tip more flags
Side-later os tip top more flags le s = record {
  size = s.size;
  walk = λ commit. let w = s.walk commit in record {
    start = w.start;
    only = w.only;
    done = λ p on from. w.done p on (omega arith);
  };
  none = s.none;
}

-- ---- the two sides

pub record AreSides (os : List Object) (symmetric : Bool) (left right : List ℕ) (place low : ℕ)
    (l r : List Bool) (keys : List LogKey) : Type 0 where
  pub left_side : IsSide os left place l
  pub right_side : IsSide os right place r
  pub lowest : IsLowest symmetric low l r
  pub keys_are : AreKeysFrom os (is_apart_in os symmetric left right) place keys

weaker : (os : List Object) (xs ys : List (List ℕ)) (old new : List Bool)
    → ((x : List ℕ) → Contains xs x → Contains ys x) → Adds os xs old new → Adds os ys old new
weaker os xs ys old new in_ys a = record {
  kept = a.kept;
  added = λ p on. elim (a.added p on) [
    | inl before ↦ inl before
    | inr one ↦ inr (record {
      id = one.id;
      among = in_ys one.id one.among;
      place_is = one.place_is;
      within = one.within;
    })
  ];
}

no-apart : (symmetric : Bool) → is_apart symmetric false false ≡ true → ⊥
no-apart true e = cc e
no-apart false e = cc e

module _ (digest : List ℕ → List ℕ) (os : List Object) (good : AreHeld digest os) (symmetric : Bool)
    (left right : List ℕ) where
  -- a side reaches nothing from its top on
  none-above : (tip : List ℕ) (top p : ℕ) → (is_of os kind.Commit tip ≡ true → place_of tip os < top)
      → top ≤ p → p < length os → reaches os tip (object_at p os).id ≡ false
  none-above tip top p above le lt = elim (cases_Bool (is_of os kind.Commit tip)) [
    | inl commit ↦
        let low = above commit in
        let distinct = good.distinct p lt in
        not_after digest os good tip (object_at p os).id (omega arith)
    | inr nay ↦ no_tip os tip (object_at p os).id nay
  ]

  pub Sides-begin : (left_top right_top top low : ℕ) (bl br l r : List Bool) (keys : List LogKey)
      → bl ≡ replicate (length os) false → br ≡ replicate (length os) false
      → (is_of os kind.Commit left ≡ true → place_of left os < left_top) → left_top ≤ length os
      → (is_of os kind.Commit right ≡ true → place_of right os < right_top) → right_top ≤ length os
      → left_top ≤ top → right_top ≤ top
      → MarksIf (is_of os kind.Commit left) os bl l (left ∷ [])
      → MarksIf (is_of os kind.Commit right) os br r (right ∷ [])
      → IsLowestOf os symmetric low l r (left ∷ right ∷ []) → low ≤ top → keys ≡ []
      → AreSides os symmetric left right top low l r keys
  Sides-begin left_top right_top top low bl br l r keys bl_is br_is la lw ra rw_ lt rt ml mr all le none = record {
    left_side = Side-later os left left_top top l lt (Side-begin os left left_top bl l bl_is la lw ml);
    right_side = Side-later os right right_top top r rt (Side-begin os right right_top br r br_is ra rw_ mr);
    lowest = Lowest-step os symmetric low low bl br l r (left ∷ right ∷ [])
        (weaker os (left ∷ []) (left ∷ right ∷ []) bl l (λ x c. Contains-append_left (left ∷ []) (right ∷ []) x c)
        (adds os (left ∷ []) bl l _ ml))
        (weaker os (right ∷ []) (left ∷ right ∷ []) br r (λ x c. Contains-append_right (left ∷ []) (right ∷ []) x c)
        (adds os (right ∷ []) br r _ mr))
        (λ q apart. absurd (no-apart symmetric
        (ap (is_apart symmetric false) (sym (blank-off os br br_is q))
        ∙ ap (λ (b : Bool). is_apart symmetric b (flag_at br q)) (sym (blank-off os bl bl_is q)) ∙ apart)))
        (omega arith) all;
    keys_are = subst (AreKeysFrom os (is_apart_in os symmetric left right) top) (sym none)
        (Keys-none os (is_apart_in os symmetric left right) top
        (λ p from within. apart-no
        (none-above left left_top p la (omega arith) within) (none-above right right_top p ra (omega arith) within)));
  }
    where
      apart-no : {a b : Bool} → a ≡ false → b ≡ false → is_apart symmetric a b ≡ false
      apart-no {a} {b} e f = ap (λ (x : Bool). is_apart symmetric x b) e ∙ ap (is_apart symmetric false) f ∙ none-is symmetric
        where
          none-is : (x : Bool) → is_apart x false false ≡ false
          none-is true = refl
          none-is false = refl

  -- the test at a place is that of its commit
  pub Sides-tell : (at low : ℕ) (l r : List Bool) (keys : List LogKey) → at < length os
      → AreSides os symmetric left right (suc at) low l r keys
      → is_apart symmetric (flag_at l at) (flag_at r at) ≡ is_apart_in os symmetric left right (object_at at os).id
  Sides-tell at low l r keys lt w =
      ap (λ (b : Bool). is_apart symmetric b (flag_at r at))
      (Side-tells digest os good left at at l w.left_side (omega arith) lt)
      ∙ ap (is_apart symmetric (reaches os left (object_at at os).id))
      (Side-tells digest os good right at at r w.right_side (omega arith) lt)

  -- one place down, whose commit some side reaches
  pub Sides-step : (at low less : ℕ) (l r m s : List Bool) (bl br : Bool) (keys : List LogKey)
      → bl ≡ flag_at l at → br ≡ flag_at r at
      → IsSide os left (suc at) l → IsSide os right (suc at) r → IsLowest symmetric low l r
      → AreKeysFrom os (is_apart_in os symmetric left right) at keys
      → MarksIf bl os l m (parents_of os (object_at at os).id)
      → MarksIf br os r s (parents_of os (object_at at os).id)
      → less ≤ low → IsLowestOf os symmetric less m s (parents_of os (object_at at os).id)
      → AreSides os symmetric left right at less m s keys
  Sides-step at low less l r m s bl br keys is_l is_r sl sr w are ml mr le all = record {
    left_side = Side-step digest os good left at l m bl is_l sl ml;
    right_side = Side-step digest os good right at r s br is_r sr mr;
    lowest = Lowest-step os symmetric low less l r m s (parents_of os (object_at at os).id)
        (adds os _ l m bl ml) (adds os _ r s br mr) w le all;
    keys_are = are;
  }

  -- the end of the walk
  pub Sides-end : (place low : ℕ) (l r : List Bool) (keys : List LogKey) → place ≤ low
      → AreSides os symmetric left right place low l r keys
      → AreKeysOf os (is_apart_in os symmetric left right) keys
  Sides-end place low l r keys le w =
      Keys-all os (is_apart_in os symmetric left right) place keys
      (λ p below lt. not-apart symmetric _ _
      (λ e. both-below digest os good left right place l r w.left_side w.right_side
      (λ q less. (closed q less).0) p below lt e)
      (λ is e. both-below digest os good right left place r l w.right_side w.left_side
      (λ q less. (closed q less).1 is) p below lt e))
      w.keys_are
    where
      closed : (q : ℕ) → q < place
          → (flag_at r q ≡ true → flag_at l q ≡ true) × (symmetric ≡ true → flag_at l q ≡ true → flag_at r q ≡ true)
      closed q less = apart-not symmetric (flag_at l q) (flag_at r q) (off (cases_Bool (is_apart symmetric (flag_at l q) (flag_at r q))))
        where
          off : (is_apart symmetric (flag_at l q) (flag_at r q) ≡ true) ⊎ (is_apart symmetric (flag_at l q) (flag_at r q) ≡ false)
              → is_apart symmetric (flag_at l q) (flag_at r q) ≡ false
          off (inl on) = absurd (let h = w.lowest q on in omega arith)
          off (inr nay) = nay

-- only commits are reached
old-commit : (os : List Object) (tip id : List ℕ) → reaches os tip id ≡ true → IsTrue (is_of os kind.Commit id)
unfolding reaches
old-commit os tip id e = (and_parts _ _ (and_parts _ _ e).0).1

pub apart-commit : (os : List Object) (symmetric : Bool) (left right id : List ℕ)
    → is_apart_in os symmetric left right id ≡ true → IsTrue (is_of os kind.Commit id)
apart-commit os symmetric left right id e = elim (or_cases (symmetric && (reaches os left id && not (reaches os right id))) _ e) [
  | inl one ↦ old-commit os left id (and_parts _ _ (and_parts symmetric _ one).1).0
  | inr other ↦ old-commit os right id (and_parts _ _ other).0
]

-- ---- the lowest of some names, one more after others

pub Lowest-take : (os : List Object) (symmetric : Bool) (low less : ℕ) (l r : List Bool) (ids : List (List ℕ)) (i : ℕ)
    (id : List ℕ) → i < length ids → id ≡ get_or ids i id → less ≤ low
    → IsLowestOf os symmetric low l r (take i ids)
    → (place_of id os < length os → is_apart symmetric (flag_at l (place_of id os)) (flag_at r (place_of id os)) ≡ true
    → less ≤ place_of id os)
    → IsLowestOf os symmetric less l r (take (i + 1) ids)
Lowest-take os symmetric low less l r ids i id lt is le all one =
    subst (IsLowestOf os symmetric less l r) (sym (take_more ids i id lt ∙ ap (λ (x : List ℕ). take i ids ++ x ∷ []) (sym is)))
    (All-append (Low less) (take i ids) (id ∷ [])
    (All-weaker (Low low) (Low less) (λ x h there apart. let before = h there apart in omega arith) (take i ids) all)
    (All-cons (Low less) id [] one (All-nil (Low less))))
  where
    Low : ℕ → List ℕ → Type 0
    Low n x = place_of x os < length os
        → is_apart symmetric (flag_at l (place_of x os)) (flag_at r (place_of x os)) ≡ true
        → n ≤ place_of x os

pub never-both : (b : Bool) → b ≡ false → b ≡ true → ⊥
never-both b off on = cc

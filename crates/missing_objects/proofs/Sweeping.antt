-- A sweep from late places to early ones settles which objects are wanted and not had.
use Rattle.std.proofs.Common.{◌≡◌, ℕ, zero, suc, ◌+◌, ◌<◌, ◌≤◌, Bool, true, false, not, ◌&&◌, ◌||◌, cond, List, [], ◌∷◌, length, get_or, replicate, All, inl, inr, ◌⊎◌, ◌↔◌, refl, sym, ap, subst, ◌∙◌, arith}
use Rattle.std.specs.Prelude.{IsTrue, nat_lt}
use Rattle.std.specs.Int.{from_bool}
use Rattle.std.specs.List.{Contains}
use Rattle.std.proofs.lemmas.Bool.{cases_Bool, cases_eq, cases_lt, or_cases, or_left, or_right}
use Rattle.std.proofs.lemmas.Bool.Decides.{nat_tests}
use Rattle.std.proofs.lemmas.List.Elements.{All-nil, All-contains, All-contains_itself, All-weaker}
use Rattle.git_model.specs.Repository.{Object}
use Rattle.git_model.specs.References.{referred_by, place_of, object_at}
use Rattle.git_model.specs.HeldObjects.{AreHeld}
use Rattle.git_model.specs.Reach.{IsClosed}
use Rattle.git_model.proofs.Earlier.{references_fall}
use Rattle.commit_walk.proofs.Named.{there}
use Rattle.export_text.specs.Marking.{with_flags}
use Rattle.export_text.proofs.Leading.{IsLed, IsLedTo, IsOn, all_on, any-led, kept_on, led-any, led-first, led-more, led-next, nothing_referred, on_either, on_within, same_above, same_test, stays_on}
use Rattle.missing_objects.specs.Marks.{Marks, first_marks, is_open, marks_at, open_places, with_marks}
use Rattle.missing_objects.specs.declared.marks.Mark.TheVariants as mark
use Rattle.missing_objects.specs.Missing.{is_missing, is_reached_by}
use Rattle.missing_objects.proofs.Opens.{opens, opens-agree, opens-few, opens-suc, opens-zero, none_below}

-- ---- what is led to is what is reached

module _ (digest : List ℕ → List ℕ) (os : List Object) (held : AreHeld digest os) where
  pub led-reached : (names : List (List ℕ)) (id : List ℕ) → IsLedTo os names id
      → is_reached_by os names id ≡ true
  unfolding is_reached_by
  led-reached names id led = led-any digest os held names id led

  pub reached-led : (names : List (List ℕ)) (id : List ℕ) → is_reached_by os names id ≡ true
      → IsLedTo os names id
  unfolding is_reached_by
  reached-led names id h = any-led digest os held id names h

-- A sweep that has looked at the places from n on and found some of them opened.
pub record IsSweep (os : List Object) (wants haves : List (List ℕ)) (n found : ℕ) (m : Marks) : Type 0 where
  pub wanted : IsLed os wants m.wanted
  pub had : IsLed os haves m.had
  pub wanted_done : (p : ℕ) → n ≤ p → is_open m p ≡ true
      → All (IsOn os m.wanted) (referred_by os (object_at p os).id)
  pub had_done : (p : ℕ) → n ≤ p → get_or m.had p false ≡ true
      → All (IsOn os m.had) (referred_by os (object_at p os).id)
  pub count : opens m (length os) ≡ opens m n + found

wanted-of : (m : Marks) (p : ℕ) → is_open m p ≡ true → get_or m.wanted p false ≡ true
wanted-of m p opened = elim (cases_Bool (get_or m.wanted p false)) [
  | inl yea ↦ yea
  | inr nay ↦ let e : false ≡ is_open m p = sym (ap (λ (b : Bool). b && not (get_or m.had p false)) nay) in cc
]

not-had-of : (m : Marks) (p : ℕ) → is_open m p ≡ true → get_or m.had p false ≡ false
not-had-of m p opened = elim (cases_Bool (get_or m.had p false)) [
  | inl yea ↦
      let e : (get_or m.wanted p false && not true) ≡ true = ap (λ (b : Bool). get_or m.wanted p false && not b) (sym yea) ∙ opened in
      absurd (never (get_or m.wanted p false) e)
  | inr nay ↦ nay
]
  where
    never : (b : Bool) → (b && not true) ≡ true → ⊥
    never true e = cc
    never false e = cc

open-of : (m : Marks) (p : ℕ) → get_or m.wanted p false ≡ true → get_or m.had p false ≡ false
    → is_open m p ≡ true
open-of m p on off =
    ap (λ (b : Bool). b && not (get_or m.had p false)) on ∙ ap not off

closed-of : (m : Marks) (p : ℕ) → get_or m.had p false ≡ true → is_open m p ≡ false
closed-of m p on = ap (λ (b : Bool). get_or m.wanted p false && not b) on ∙ never (get_or m.wanted p false)
  where
    never : (b : Bool) → (b && not true) ≡ false
    never true = refl
    never false = refl

unwanted-of : (m : Marks) (p : ℕ) → get_or m.wanted p false ≡ false → is_open m p ≡ false
unwanted-of m p off = ap (λ (b : Bool). b && not (get_or m.had p false)) off

pub below-test : (a b : ℕ) → a < b → nat_lt a b ≡ true
below-test a b lt = grind (arith, nat_tests)

pub below-not : (a b : ℕ) → b ≤ a → nat_lt a b ≡ true → ⊥
below-not a b le h = grind (arith, nat_tests)

never-both : (b : Bool) → b ≡ false → b ≡ true → ⊥
never-both b off on = let e = sym off ∙ on in cc

both-of : (a b : Bool) → (a && not b) ≡ true → (a ≡ true) × (b ≡ false)
both-of true true e = cc
both-of true false e = (refl, refl)
both-of false b e = cc

module _ (digest : List ℕ → List ℕ) (os : List Object) (held : AreHeld digest os)
    (wants haves : List (List ℕ)) where
  pub sweep-first : IsSweep os wants haves (length os) 0 (first_marks os wants haves)
  sweep-first = record {
    wanted = led-first os wants;
    had = led-first os haves;
    wanted_done = λ p from opened.
        let lt = on_within _ p (wanted-of (first_marks os wants haves) p opened) in
        let s = (led-first os wants).size in absurd (omega arith);
    had_done = λ p from on.
        let lt = on_within _ p on in
        let s = (led-first os haves).size in absurd (omega arith);
    count = omega arith;
  }

  -- ---- one place down

  module _ (n found : ℕ) (m : Marks) (within : n < length os) (w : IsSweep os wants haves (suc n) found m) where
    abbrev ids : List (List ℕ)
    ids = referred_by os (object_at n os).id

    -- where the marks from n on are the same, the count goes on
    counted : (l : Marks) (b : Bool) → is_open m n ≡ b → ((p : ℕ) → n ≤ p → is_open l p ≡ is_open m p)
        → opens l (length os) ≡ opens l n + (found + from_bool b)
    counted l b is same =
        let e : opens l (length os) + opens m n ≡ opens m (length os) + opens l n =
        opens-agree m l n same (length os) (omega arith) in
        let f : opens m (suc n) ≡ opens m n + from_bool (is_open m n) = opens-suc m n in
        let g : from_bool (is_open m n) ≡ from_bool b = ap from_bool is in
        let c : opens m (length os) ≡ opens m (suc n) + found = w.count in omega arith

    having : get_or m.had n false ≡ true
        → IsSweep os wants haves n (found + 0) (record { wanted = m.wanted; had = with_flags os m.had ids })
    having on = record {
      wanted = w.wanted;
      had = led-more digest os held n within haves m.had on w.had;
      wanted_done = λ p from opened. elim (cases_eq n p) [
        | inl same ↦
            let now : get_or (with_flags os m.had ids) p false ≡ true = kept_on os ids m.had p false (subst (λ (q : ℕ). get_or m.had q false ≡ true) same on) in
            let off = not-had-of (record { wanted = m.wanted; had = with_flags os m.had ids }) p opened in cc
        | inr other ↦ w.wanted_done p (omega arith)
            (ap (λ (b : Bool). get_or m.wanted p false && not b) (sym (same_above digest os held n within m.had p from)) ∙ opened)
      ];
      had_done = λ p from h. elim (cases_eq n p) [
        | inl same ↦ subst (λ (q : ℕ). All (IsOn os (with_flags os m.had ids)) (referred_by os (object_at q os).id)) same
            (all_on os ids m.had)
        | inr other ↦ stays_on os ids m.had (referred_by os (object_at p os).id)
            (w.had_done p (omega arith) (sym (same_above digest os held n within m.had p from) ∙ h))
      ];
      count = counted (record { wanted = m.wanted; had = with_flags os m.had ids }) false (closed-of m n on)
          (λ p from. ap (λ (b : Bool). get_or m.wanted p false && not b) (same_above digest os held n within m.had p from));
    }

    wanting : get_or m.had n false ≡ false → get_or m.wanted n false ≡ true
        → IsSweep os wants haves n (found + 1) (record { wanted = with_flags os m.wanted ids; had = m.had })
    wanting off on = record {
      wanted = led-more digest os held n within wants m.wanted on w.wanted;
      had = w.had;
      wanted_done = λ p from opened. elim (cases_eq n p) [
        | inl same ↦ subst (λ (q : ℕ). All (IsOn os (with_flags os m.wanted ids)) (referred_by os (object_at q os).id)) same
            (all_on os ids m.wanted)
        | inr other ↦ stays_on os ids m.wanted (referred_by os (object_at p os).id)
            (w.wanted_done p (omega arith)
            (ap (λ (b : Bool). b && not (get_or m.had p false)) (sym (same_above digest os held n within m.wanted p from)) ∙ opened))
      ];
      had_done = λ p from h. elim (cases_eq n p) [
        | inl same ↦ let fails : get_or m.had p false ≡ false = subst (λ (q : ℕ). get_or m.had q false ≡ false) same off in cc
        | inr other ↦ w.had_done p (omega arith) h
      ];
      count = counted (record { wanted = with_flags os m.wanted ids; had = m.had }) true (open-of m n on off)
          (λ p from. ap (λ (b : Bool). b && not (get_or m.had p false)) (same_above digest os held n within m.wanted p from));
    }

    passing : get_or m.had n false ≡ false → get_or m.wanted n false ≡ false → IsSweep os wants haves n (found + 0) m
    passing off none = record {
      wanted = w.wanted;
      had = w.had;
      wanted_done = λ p from opened. elim (cases_eq n p) [
        | inl same ↦
            let fails : get_or m.wanted p false ≡ false = subst (λ (q : ℕ). get_or m.wanted q false ≡ false) same none in
            let holds = wanted-of m p opened in cc
        | inr other ↦ w.wanted_done p (omega arith) opened
      ];
      had_done = λ p from h. elim (cases_eq n p) [
        | inl same ↦ let fails : get_or m.had p false ≡ false = subst (λ (q : ℕ). get_or m.had q false ≡ false) same off in cc
        | inr other ↦ w.had_done p (omega arith) h
      ];
      count = counted m false (unwanted-of m n none) (λ p from. refl);
    }

    on-had : get_or m.had n false ≡ true
        → marks_at os m n ≡ record { wanted = m.wanted; had = with_flags os m.had ids }
    on-had on =
        ap (λ (b : Bool). cond b (with_marks mark.Had os m ids)
        (cond (get_or m.wanted n false) (with_marks mark.Wanted os m ids) m)) on

    past-had : get_or m.had n false ≡ false
        → marks_at os m n ≡ cond (get_or m.wanted n false) (with_marks mark.Wanted os m ids) m
    past-had off =
        ap (λ (b : Bool). cond b (with_marks mark.Had os m ids)
        (cond (get_or m.wanted n false) (with_marks mark.Wanted os m ids) m)) off

    to : (l : Marks) (b : Bool) → marks_at os m n ≡ l → is_open m n ≡ b
        → IsSweep os wants haves n (found + from_bool b) l
        → IsSweep os wants haves n (found + from_bool (is_open m n)) (marks_at os m n)
    to l b is told v =
        subst (λ (x : Bool). IsSweep os wants haves n (found + from_bool x) (marks_at os m n)) (sym told)
        (subst (λ (k : Marks). IsSweep os wants haves n (found + from_bool b) k) (sym is) v)

    pub sweep-next : IsSweep os wants haves n (found + from_bool (is_open m n)) (marks_at os m n)
    sweep-next = elim (cases_Bool (get_or m.had n false)) [
      | inl on ↦ to (record { wanted = m.wanted; had = with_flags os m.had ids }) false (on-had on) (closed-of m n on) (having on)
      | inr off ↦ elim (cases_Bool (get_or m.wanted n false)) [
        | inl on ↦ to (record { wanted = with_flags os m.wanted ids; had = m.had }) true
            (past-had off ∙ ap (λ (b : Bool). cond b (with_marks mark.Wanted os m ids) m) on)
            (open-of m n on off) (wanting off on)
        | inr none ↦ to m false
            (past-had off ∙ ap (λ (b : Bool). cond b (with_marks mark.Wanted os m ids) m) none)
            (unwanted-of m n none) (passing off none)
      ]
    ]

  -- ---- the end

  module _ (n found : ℕ) (m : Marks) (w : IsSweep os wants haves n found m) (none : opens m n ≡ 0) where
    above : (p : ℕ) → is_open m p ≡ true → n ≤ p
    above p opened = elim (cases_lt p n) [
      | inl lt ↦ absurd (none_below m n none p lt opened)
      | inr le ↦ le
    ]

    -- what the had names lead to is had, or below the sweep
    abbrev had_or_below : List ℕ → Bool
    had_or_below id = get_or m.had (place_of id os) true || nat_lt (place_of id os) n

    had-closed : IsClosed (referred_by os) had_or_below
    had-closed id h = elim (cases_lt (place_of id os) n) [
      | inl lt ↦
          All-weaker (λ q. place_of q os < place_of id os) (λ b. IsTrue (had_or_below b))
          (λ b less. or_right (get_or m.had (place_of b os) true) _ (below-test (place_of b os) n (omega arith)))
          (referred_by os id) (references_fall digest os held id)
      | inr le ↦ elim (or_cases _ _ h) [
        | inl on ↦ elim (cases_lt (place_of id os) (length os)) [
          | inl lt ↦
              All-weaker (IsOn os m.had) (λ b. IsTrue (had_or_below b))
              (λ b is. or_left _ (nat_lt (place_of b os) n) is) (referred_by os id)
              (subst (λ (x : List ℕ). All (IsOn os m.had) (referred_by os x)) (there id os lt).id_is
              (w.had_done (place_of id os) le
              (sym (on_either m.had (place_of id os) (let s = w.had.size in omega arith)) ∙ on)))
          | inr past ↦ rw (nothing_referred os id past) (All-nil (λ b. IsTrue (had_or_below b)))
        ]
        | inr lt ↦ absurd (below-not (place_of id os) n le lt)
      ]
    ]

    had-on : (p : ℕ) → n ≤ p → p < length os → IsLedTo os haves (object_at p os).id
        → get_or m.had p false ≡ true
    had-on p from lt led =
        let both : had_or_below (object_at p os).id ≡ true = led.reaches.in_each had_or_below
        (or_left _ _ (All-contains (IsOn os m.had) haves led.from w.had.begun led.among)) had-closed in
        let here : (get_or m.had p true || nat_lt p n) ≡ true =
        subst (λ (q : ℕ). (get_or m.had q true || nat_lt q n) ≡ true) (held.distinct p lt) both in
        elim (or_cases (get_or m.had p true) (nat_lt p n) here) [
          | inl on ↦ sym (on_either m.had p (let s = w.had.size in omega arith)) ∙ on
          | inr less ↦ absurd (below-not p n from less)
        ]

    had-led : (p : ℕ) → get_or m.had p false ≡ true → is_reached_by os haves (object_at p os).id ≡ true
    had-led p on = led-reached digest os held haves (object_at p os).id (w.had.only p on)

    -- what the wanted names lead to is wanted, or the had names reach it
    abbrev wanted_or_reached : List ℕ → Bool
    wanted_or_reached id = is_reached_by os haves id || get_or m.wanted (place_of id os) true

    reached-closed : (id : List ℕ) → is_reached_by os haves id ≡ true
        → All (λ b. IsTrue (wanted_or_reached b)) (referred_by os id)
    reached-closed id h =
        All-weaker (Contains (referred_by os id)) (λ b. IsTrue (wanted_or_reached b))
        (λ b among. or_left _ (get_or m.wanted (place_of b os) true)
        (led-reached digest os held haves b (led-next os haves id b (reached-led digest os held haves id h) among)))
        (referred_by os id) (All-contains_itself (referred_by os id))

    not-had : (p : ℕ) → is_reached_by os haves (object_at p os).id ≡ false → get_or m.had p false ≡ false
    not-had p unreached = elim (cases_Bool (get_or m.had p false)) [
      | inl on ↦ let holds = had-led p on in cc
      | inr off ↦ off
    ]

    unreached-closed : (p : ℕ) → p < length os → is_reached_by os haves (object_at p os).id ≡ false
        → get_or m.wanted p true ≡ true
        → All (λ b. IsTrue (wanted_or_reached b)) (referred_by os (object_at p os).id)
    unreached-closed p lt unreached on =
        let opened = open-of m p (sym (on_either m.wanted p (let s = w.wanted.size in omega arith)) ∙ on) (not-had p unreached) in
        All-weaker (IsOn os m.wanted) (λ b. IsTrue (wanted_or_reached b))
        (λ b is. or_right (is_reached_by os haves b) _ is) (referred_by os (object_at p os).id)
        (w.wanted_done p (above p opened) opened)

    wanted-closed : IsClosed (referred_by os) wanted_or_reached
    wanted-closed id h = elim (cases_Bool (is_reached_by os haves id)) [
      | inl reached ↦ reached-closed id reached
      | inr unreached ↦ elim (cases_lt (place_of id os) (length os)) [
        | inl lt ↦
            let is = (there id os lt).id_is in
            let on : get_or m.wanted (place_of id os) true ≡ true = elim (or_cases _ _ h) [
              | inl holds ↦ absurd (never-both _ unreached holds)
              | inr on ↦ on
            ] in
            subst (λ (x : List ℕ). All (λ b. IsTrue (wanted_or_reached b)) (referred_by os x)) is
            (unreached-closed (place_of id os) lt
            (ap (is_reached_by os haves) is ∙ unreached) on)
        | inr past ↦ rw (nothing_referred os id past) (All-nil (λ b. IsTrue (wanted_or_reached b)))
      ]
    ]

    wanted-on : (p : ℕ) → p < length os → IsLedTo os wants (object_at p os).id
        → is_reached_by os haves (object_at p os).id ≡ false → get_or m.wanted p false ≡ true
    wanted-on p lt led unreached =
        let both : wanted_or_reached (object_at p os).id ≡ true = led.reaches.in_each wanted_or_reached
        (or_right (is_reached_by os haves led.from) _ (All-contains (IsOn os m.wanted) wants led.from w.wanted.begun led.among))
        wanted-closed in
        elim (or_cases _ _ both) [
          | inl holds ↦ absurd (never-both _ unreached holds)
          | inr on ↦
              sym (on_either m.wanted p (let s = w.wanted.size in omega arith))
              ∙ subst (λ (q : ℕ). get_or m.wanted q true ≡ true) (held.distinct p lt) on
        ]

    open-missing : (p : ℕ) → p < length os → is_open m p ≡ true
        → is_missing os wants haves (object_at p os) ≡ true
    open-missing p lt opened =
        let holds = led-reached digest os held wants (object_at p os).id (w.wanted.only p (wanted-of m p opened)) in
        elim (cases_Bool (is_reached_by os haves (object_at p os).id)) [
          | inl reached ↦
              let on = had-on p (above p opened) lt (reached-led digest os held haves (object_at p os).id reached) in
              absurd (never-both _ (not-had-of m p opened) on)
          | inr unreached ↦ ap (λ (b : Bool). b && not (is_reached_by os haves (object_at p os).id)) holds ∙ ap not unreached
        ]

    missing-opened : (p : ℕ) → p < length os → is_missing os wants haves (object_at p os) ≡ true
        → is_open m p ≡ true
    missing-opened p lt h =
        let both = both-of (is_reached_by os wants (object_at p os).id) (is_reached_by os haves (object_at p os).id) h in
        open-of m p (wanted-on p lt (reached-led digest os held wants (object_at p os).id both.0) both.1)
        (not-had p both.1)

    pub settled : (p : ℕ) → p < length os → is_open m p ≡ is_missing os wants haves (object_at p os)
    settled p lt = same_test _ _ (open-missing p lt) (missing-opened p lt)

-- ---- the loop

module _ (digest : List ℕ → List ℕ) (os : List Object) (held : AreHeld digest os)
    (wants haves : List (List ℕ)) where
  pub sweep-begun : (n : ℕ) (m : Marks) → n ≡ length os → m ≡ first_marks os wants haves
      → IsSweep os wants haves n 0 m
  sweep-begun n m whole is =
      subst (λ (k : ℕ). IsSweep os wants haves k 0 m) (sym whole)
      (subst (λ (l : Marks). IsSweep os wants haves (length os) 0 l) (sym is)
      (sweep-first digest os held wants haves))

  pub sweep-step : (place n found : ℕ) (m l : Marks) (b : Bool) → place ≡ suc n → n < length os
      → IsSweep os wants haves place found m → l ≡ marks_at os m n → b ≡ is_open m n
      → IsSweep os wants haves n (found + from_bool b) l
  sweep-step place n found m l b at within w is told =
      subst (λ (k : Marks). IsSweep os wants haves n (found + from_bool b) k) (sym is)
      (subst (λ (x : Bool). IsSweep os wants haves n (found + from_bool x) (marks_at os m n)) (sym told)
      (sweep-next digest os held wants haves n found m within (subst (λ (k : ℕ). IsSweep os wants haves k found m) at w)))

-- The two ways in which a sweep ends.
pub none-left : (os : List Object) (wants haves : List (List ℕ)) (n found count : ℕ) (m : Marks)
    → IsSweep os wants haves n found m → length m.wanted ≡ length os → count ≡ opens m (length m.wanted)
    → count ≤ found → opens m n ≡ 0
none-left os wants haves n found count m w size counted few =
    let e : opens m (length m.wanted) ≡ opens m (length os) = ap (opens m) size in
    let c : opens m (length os) ≡ opens m n + found = w.count in omega arith

pub at-first : (n : ℕ) (m : Marks) → n ≡ 0 → opens m n ≡ 0
at-first n m is = ap (opens m) is ∙ opens-zero m

-- Flags for places: what one more mark does, and several marks one after another.
use Rattle.std.proofs.Common.{◌≡◌, ◌≢◌, ℕ, zero, suc, ◌+◌, ◌-◌, ◌<◌, ◌≤◌, Bool, true, false, ◌&&◌, List, [], ◌∷◌, ◌++◌, length, get_or, set, inl, inr, ◌⊎◌, refl, sym, ◌∙◌, arith, get_or-set_same, get_or-set_other}
use Rattle.std.specs.Prelude.{nat_le, IsTrue}
use Rattle.std.proofs.lemmas.Bool.{and_parts, cases_eq}
use Rattle.std.proofs.lemmas.Bool.Decides.{nat_tests}
use Rattle.std.proofs.lemmas.List.{length-set}
use Rattle.std.proofs.lemmas.List.Elements.{All-nil, All-cons, All-append, All-weaker, Contains-append_left, Contains-append_right}
use Rattle.git_model.specs.Repository.{Object}
use Rattle.git_model.specs.References.{place_of}
use Rattle.commit_walk.specs.Marks.{is_marked, IsMarkedName, IsPlaceOfOne, Marks}

-- ---- one flag

pub record HasFlag (floor : ℕ) (flags : List Bool) (p : ℕ) : Type 0 where
  pub above : floor ≤ p
  pub flag : get_or flags (p - floor) false ≡ true
  pub within : p < floor + length flags

past : (flags : List Bool) (k : ℕ) → get_or flags k false ≡ true → k < length flags
past [] k e = cc
past (x ∷ xs) zero e = omega arith
past (x ∷ xs) (suc k) e = let rest = past xs k e in omega arith

pub has_flag : (floor : ℕ) (flags : List Bool) (p : ℕ) → IsTrue (is_marked floor flags p)
    → HasFlag floor flags p
has_flag floor flags p marked =
    let parts = and_parts (nat_le floor p) (get_or flags (p - floor) false) marked in
    let above : floor ≤ p = grind (arith, nat_tests, parts.0) in
    let lt = past flags (p - floor) parts.1 in
    record { above = above; flag = parts.1; within = omega arith }

pub is_flagged : (floor : ℕ) (flags : List Bool) (p : ℕ) → floor ≤ p
    → get_or flags (p - floor) false ≡ true → IsTrue (is_marked floor flags p)
is_flagged floor flags p above flag = rw flag (grind (arith, nat_tests))

pub not_flagged : (floor : ℕ) (flags : List Bool) (p : ℕ) → get_or flags (p - floor) false ≡ false
    → is_marked floor flags p ≡ false
not_flagged floor flags p none = by (nat_le floor p)
  where
    by : (b : Bool) → (b && get_or flags (p - floor) false) ≡ false
    by true = none
    by false = refl

-- ---- marks

pub Marks-nil : (os : List Object) (floor : ℕ) (flags : List Bool) → Marks os floor flags flags []
Marks-nil os floor flags = record {
  size = refl;
  kept = λ p marked. marked;
  added = λ p marked. inl marked;
  all = All-nil (IsMarkedName os floor flags);
}

-- a name whose object has no flag
pub Marks-skip : (os : List Object) (floor : ℕ) (flags : List Bool) (id : List ℕ)
    → (floor ≤ place_of id os → place_of id os < length os → place_of id os < floor + length flags → ⊥)
    → Marks os floor flags flags (id ∷ [])
Marks-skip os floor flags id none = record {
  size = refl;
  kept = λ p marked. marked;
  added = λ p marked. inl marked;
  all = All-cons (IsMarkedName os floor flags) id [] (λ above there within. absurd (none above there within))
      (All-nil (IsMarkedName os floor flags));
}

module _ (os : List Object) (floor place : ℕ) (flags : List Bool) (above : floor ≤ place)
    (within : place - floor < length flags) where
  one_more : List Bool
  one_more = set flags (place - floor) true

  here : IsTrue (is_marked floor one_more place)
  unfolding one_more
  here =
      is_flagged floor (set flags (place - floor) true) place above
      (get_or-set_same flags (place - floor) true false within)

  elsewhere : (p : ℕ) → p ≢ place → floor ≤ p
      → get_or one_more (p - floor) false ≡ get_or flags (p - floor) false
  unfolding one_more
  elsewhere p other from =
      get_or-set_other flags (place - floor) (p - floor) true false
      (λ (same : p - floor ≡ place - floor). other (omega arith))

  kept_at : (p : ℕ) → IsTrue (is_marked floor flags p) → IsTrue (is_marked floor one_more p)
  kept_at p marked = let h = has_flag floor flags p marked in elim (cases_eq p place) [
    | inl same ↦ rw same here
    | inr other ↦ is_flagged floor one_more p h.above (elsewhere p other h.above ∙ h.flag)
  ]

  added_at : (id : List ℕ) → place_of id os ≡ place → place < length os → (p : ℕ)
      → IsTrue (is_marked floor one_more p)
      → IsTrue (is_marked floor flags p) ⊎ IsPlaceOfOne os (id ∷ []) p
  added_at id at there p marked = let h = has_flag floor one_more p marked in elim (cases_eq p place) [
    | inl same ↦ inr (record {
      id = id;
      among = (0, omega arith, refl);
      place_is = at ∙ sym same;
      within = omega arith;
    })
    | inr other ↦ inl (is_flagged floor flags p h.above (sym (elsewhere p other h.above) ∙ h.flag))
  ]

  -- a name whose object gets its flag
  pub Marks-put : (id : List ℕ) → place_of id os ≡ place → place < length os
      → Marks os floor flags (set flags (place - floor) true) (id ∷ [])
  unfolding one_more
  Marks-put id at there = record {
    size = length-set flags (place - floor) true;
    kept = kept_at;
    added = added_at id at there;
    all = All-cons (IsMarkedName os floor (set flags (place - floor) true)) id []
        (λ a t w. rw at here) (All-nil (IsMarkedName os floor (set flags (place - floor) true)));
  }

-- some names after others
pub Marks-append : (os : List Object) (floor : ℕ) (a b c : List Bool) (xs ys : List (List ℕ))
    → Marks os floor a b xs → Marks os floor b c ys → Marks os floor a c (xs ++ ys)
Marks-append os floor a b c xs ys first second = record {
  size = second.size ∙ first.size;
  kept = λ p marked. second.kept p (first.kept p marked);
  added = added;
  all = All-append (IsMarkedName os floor c) xs ys
      (All-weaker (IsMarkedName os floor b) (IsMarkedName os floor c)
      (λ id h above there within. second.kept (place_of id os)
      (h above there (let n = second.size in omega arith))) xs first.all)
      second.all;
}
  where
    before : (p : ℕ) → IsTrue (is_marked floor a p) ⊎ IsPlaceOfOne os xs p
        → IsTrue (is_marked floor a p) ⊎ IsPlaceOfOne os (xs ++ ys) p
    before p (inl marked) = inl marked
    before p (inr one) = inr (record {
      id = one.id;
      among = Contains-append_left xs ys one.id one.among;
      place_is = one.place_is;
      within = one.within;
    })

    added : (p : ℕ) → IsTrue (is_marked floor c p)
        → IsTrue (is_marked floor a p) ⊎ IsPlaceOfOne os (xs ++ ys) p
    added p marked = elim (second.added p marked) [
      | inl old ↦ before p (first.added p old)
      | inr one ↦ inr (record {
        id = one.id;
        among = Contains-append_right xs ys one.id one.among;
        place_is = one.place_is;
        within = one.within;
      })
    ]

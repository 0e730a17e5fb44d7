-- What ways of bounded length lead to is the least closed set, where each step goes to a lower
-- rank.
use Rattle.std.proofs.Common.{◌≡◌, ℕ, zero, suc, ◌<◌, ◌≤◌, Bool, true, ◌||◌, List, [], ◌∷◌, refl, sym, subst, IsTrue, ◌↔◌, All, ◌⊎◌, inl, inr, arith, get_or}
use Rattle.std.specs.List.{list_any}
use Rattle.std.specs.Str.{bytes_eq}
use Rattle.std.proofs.lemmas.Bool.{or_cases, or_left, or_right}
use Rattle.std.proofs.lemmas.List.Elements.{All-head, All-tail}
use Rattle.std.proofs.lemmas.List.Folds.{list_any_at}
use Rattle.std.proofs.lemmas.Slice.Eq.{bytes_eq-Decides}
use Rattle.git_model.specs.Reach.{IsClosed, Reaches, leads_within}

-- a test that follows from another, element by element
any_also : {A : Type 0} (p q : A → Bool) (P : A → Type 0)
    → ((x : A) → P x → p x ≡ true → q x ≡ true) → (xs : List A) → All P xs → list_any p xs ≡ true
    → list_any q xs ≡ true
any_also p q P also [] h e = e
any_also p q P also (x ∷ xs) h e = elim (or_cases (p x) (list_any p xs) e) [
  | inl one ↦ or_left _ _ (also x (All-head P x xs h) one)
  | inr rest ↦ or_right _ _ (any_also p q P also xs (All-tail P x xs h) rest)
]

none_any : {A : Type 0} (p : A → Bool) (P : A → Type 0) → ((x : A) → P x → p x ≡ true → ⊥)
    → (xs : List A) → All P xs → list_any p xs ≡ true → ⊥
none_any p P never [] h e = cc
none_any p P never (x ∷ xs) h e = elim (or_cases (p x) (list_any p xs) e) [
  | inl one ↦ never x (All-head P x xs h) one
  | inr rest ↦ none_any p P never xs (All-tail P x xs h) rest
]

same : (id : List ℕ) → bytes_eq id id ≡ true
same id = (bytes_eq-Decides id id).1 refl

module _ (leads : List ℕ → List (List ℕ)) where
  no_step : (from to : List ℕ) → leads_within leads 0 from to ≡ bytes_eq from to
  unfolding leads_within
  no_step from to = refl

  a_step : (n : ℕ) (from to : List ℕ)
      → leads_within leads (suc n) from to ≡
      (bytes_eq from to || list_any (λ next. leads_within leads n next to) (leads from))
  unfolding leads_within
  a_step n from to = refl

  itself : (n : ℕ) (from to : List ℕ) → bytes_eq from to ≡ true
      → leads_within leads n from to ≡ true
  itself zero from to e = rw (no_step from to) e
  itself (suc n) from to e = rw (a_step n from to) (or_left _ _ e)

  onward : (n : ℕ) (from to : List ℕ)
      → list_any (λ next. leads_within leads n next to) (leads from) ≡ true
      → leads_within leads (suc n) from to ≡ true
  onward n from to e = rw (a_step n from to) (or_right (bytes_eq from to) _ e)

  first_step : (n : ℕ) (from to : List ℕ) → leads_within leads (suc n) from to ≡ true
      → (bytes_eq from to ≡ true) ⊎
      (list_any (λ next. leads_within leads n next to) (leads from) ≡ true)
  first_step n from to e = or_cases _ _ (rw (a_step n from to) at e)

  -- ---- each closed set has what a way leads to

  in_some : (set : List ℕ → Bool) (test : List ℕ → Bool) (to : List ℕ)
      → ((x : List ℕ) → test x ≡ true → set x ≡ true → set to ≡ true) → (xs : List (List ℕ))
      → All (λ b. IsTrue (set b)) xs → list_any test xs ≡ true → set to ≡ true
  in_some set test to on [] h e = cc
  in_some set test to on (x ∷ xs) h e = elim (or_cases (test x) (list_any test xs) e) [
    | inl one ↦ on x one (All-head (λ b. IsTrue (set b)) x xs h)
    | inr rest ↦ in_some set test to on xs (All-tail (λ b. IsTrue (set b)) x xs h) rest
  ]

  in_closed : (set : List ℕ → Bool) → IsClosed leads set → (n : ℕ) (from to : List ℕ)
      → leads_within leads n from to ≡ true → set from ≡ true → set to ≡ true
  in_closed set closed zero from to w s =
      subst (λ x. set x ≡ true) ((bytes_eq-Decides from to).0 (rw (no_step from to) at w)) s
  in_closed set closed (suc n) from to w s = elim (first_step n from to w) [
    | inl e ↦ subst (λ x. set x ≡ true) ((bytes_eq-Decides from to).0 e) s
    | inr some ↦ in_some set (λ next. leads_within leads n next to) to
        (λ x t u. in_closed set closed n x to t u) (leads from) (closed from s) some
  ]

  -- ---- what ways lead to is closed

  turn : (n : ℕ) (from x y : List ℕ) → list_any (λ z. bytes_eq z y) (leads x) ≡ true
      → bytes_eq from x ≡ true → leads_within leads (suc n) from y ≡ true
  turn n from x y next e =
      onward n from y
      (subst (λ z. list_any (λ a. leads_within leads n a y) (leads z) ≡ true)
      (sym ((bytes_eq-Decides from x).0 e))
      (any_also (λ z. bytes_eq z y) (λ z. leads_within leads n z y) (λ z. Unit {0})
      (λ z _ t. itself n z y t) (leads x) (λ k d lt. tt) next))

  further : (n : ℕ) (from x y : List ℕ) → list_any (λ z. bytes_eq z y) (leads x) ≡ true
      → leads_within leads n from x ≡ true → leads_within leads (suc n) from y ≡ true
  further zero from x y next w = turn 0 from x y next (rw (no_step from x) at w)
  further (suc n) from x y next w = elim (first_step n from x w) [
    | inl e ↦ turn (suc n) from x y next e
    | inr some ↦ onward (suc n) from y
        (any_also (λ z. leads_within leads n z x) (λ z. leads_within leads (suc n) z y)
        (λ z. Unit {0}) (λ z _ t. further n z x y next t) (leads from) (λ k d lt. tt) some)
  ]

module _ (leads : List ℕ → List (List ℕ)) (rank : List ℕ → ℕ)
    (falls : (id : List ℕ) → All (λ next. rank next < rank id) (leads id)) where
  -- more steps than the rank lead nowhere else
  enough : (n : ℕ) (from to : List ℕ) → rank from ≤ n → leads_within leads (suc n) from to ≡ true
      → leads_within leads n from to ≡ true
  enough zero from to within w = elim (first_step leads 0 from to w) [
    | inl e ↦ itself leads 0 from to e
    | inr some ↦ absurd
        (none_any (λ z. leads_within leads 0 z to) (λ z. rank z < rank from)
        (λ z lt t. absurd (omega arith)) (leads from) (falls from) some)
  ]
  enough (suc n) from to within w = elim (first_step leads (suc n) from to w) [
    | inl e ↦ itself leads (suc n) from to e
    | inr some ↦ onward leads n from to
        (any_also (λ z. leads_within leads (suc n) z to) (λ z. leads_within leads n z to)
        (λ z. rank z < rank from) (λ z lt t. enough n z to (omega arith) t) (leads from)
        (falls from) some)
  ]

  closed : (n : ℕ) (from : List ℕ) → rank from ≤ n
      → IsClosed leads (λ x. leads_within leads n from x)
  closed n from within x w = λ k d lt.
      let y = get_or (leads x) k d in
      enough n from y within
      (further leads n from x y (list_any_at (λ z. bytes_eq z y) (leads x) k d lt (same y)) w)

  pub least : (n : ℕ) (from to : List ℕ) → rank from ≤ n → IsTrue (leads_within leads n from to)
      ↔ Reaches leads from to
  least n from to within = (
    λ w. record { in_each = λ set s c. in_closed leads set c n from to w s },
    λ r. r.in_each (λ x. leads_within leads n from x) (itself leads n from from (same from))
        (closed n from within),
  )

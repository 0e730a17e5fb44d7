-- Open places, and how many there are.
use Rattle.std.proofs.Common.{◌≡◌, ◌≢◌, ℕ, zero, suc, ◌+◌, ◌<◌, ◌≤◌, Bool, true, false, not, ◌&&◌, cond, List, [], ◌∷◌, ◌++◌, length, get_or, set, replicate, inl, inr, refl, sym, ap, subst, ◌∙◌, arith, length-append}
use Rattle.std.specs.Int.{from_bool}
use Rattle.std.proofs.Math.Nat.{add_comm}
use Rattle.std.proofs.lemmas.Bool.{cases_eq}
use Rattle.std.proofs.lemmas.List.{length-set}
use Rattle.missing_objects.specs.Marks.{Marks, is_blank, is_open, no_marks, open_places}

-- How many places below n are open.
abbrev pub opens : Marks → ℕ → ℕ
opens m n = length (open_places m n)

pub opens-zero : (m : Marks) → opens m 0 ≡ 0
unfolding open_places
opens-zero m = refl

pub opens-suc : (m : Marks) (n : ℕ) → opens m (suc n) ≡ opens m n + from_bool (is_open m n)
unfolding open_places
opens-suc m n = length-append (open_places m n) (cond (is_open m n) (n ∷ []) [])
    ∙ ap (λ k. opens m n + k) (one (is_open m n))
  where
    one : (b : Bool) → length (cond b (n ∷ []) []) ≡ from_bool b
    one true = refl
    one false = refl

at-most : (b : Bool) → from_bool b ≤ 1
at-most true = omega arith
at-most false = omega arith

pub opens-few : (m : Marks) (n : ℕ) → opens m n ≤ n
opens-few m zero = let e = opens-zero m in omega arith
opens-few m (suc n) =
    let e = opens-suc m n in let few = opens-few m n in let one = at-most (is_open m n) in omega arith

-- Marks that agree from a place on have as many open places from there on.
pub opens-agree : (m l : Marks) (n : ℕ) → ((p : ℕ) → n ≤ p → is_open l p ≡ is_open m p) → (k : ℕ)
    → n ≤ k → opens l k + opens m n ≡ opens m k + opens l n
opens-agree m l n same zero le =
    let is : n ≡ 0 = omega arith in
    subst (λ (x : ℕ). opens l x + opens m n ≡ opens m x + opens l n) is (add_comm (opens l n) (opens m n))
opens-agree m l n same (suc k) le = elim (cases_eq n (suc k)) [
  | inl is ↦
      subst (λ (x : ℕ). opens l x + opens m n ≡ opens m x + opens l n) is (add_comm (opens l n) (opens m n))
  | inr other ↦
      let before : opens l k + opens m n ≡ opens m k + opens l n = opens-agree m l n same k (omega arith) in
      let here : from_bool (is_open l k) ≡ from_bool (is_open m k) = ap from_bool (same k (omega arith)) in
      let e : opens l (suc k) ≡ opens l k + from_bool (is_open l k) = opens-suc l k in
      let f : opens m (suc k) ≡ opens m k + from_bool (is_open m k) = opens-suc m k in omega arith
]

opens-below : (m l : Marks) (n : ℕ) → ((p : ℕ) → p < n → is_open l p ≡ is_open m p) → opens l n ≡ opens m n
opens-below m l zero same = opens-zero l ∙ sym (opens-zero m)
opens-below m l (suc n) same =
    let before : opens l n ≡ opens m n = opens-below m l n (λ p lt. same p (omega arith)) in
    let here : from_bool (is_open l n) ≡ from_bool (is_open m n) = ap from_bool (same n (omega arith)) in
    let e : opens l (suc n) ≡ opens l n + from_bool (is_open l n) = opens-suc l n in
    let f : opens m (suc n) ≡ opens m n + from_bool (is_open m n) = opens-suc m n in omega arith

-- Marks that are the same but at one place.
opens-but : (m l : Marks) (place : ℕ) → ((p : ℕ) → p ≢ place → is_open l p ≡ is_open m p) → (n : ℕ) → place < n
    → opens l n + from_bool (is_open m place) ≡ opens m n + from_bool (is_open l place)
opens-but m l place same n lt =
    let below : opens l place ≡ opens m place = opens-below m l place (λ p less. same p (omega arith)) in
    let above : opens l n + opens m (suc place) ≡ opens m n + opens l (suc place) =
    opens-agree m l (suc place) (λ p from. same p (omega arith)) n (omega arith) in
    let e : opens l (suc place) ≡ opens l place + from_bool (is_open l place) = opens-suc l place in
    let f : opens m (suc place) ≡ opens m place + from_bool (is_open m place) = opens-suc m place in omega arith

pub none_below : (m : Marks) (n : ℕ) → opens m n ≡ 0 → (p : ℕ) → p < n → is_open m p ≡ true → ⊥
none_below m zero none p lt on = absurd (omega arith)
none_below m (suc n) none p lt on =
    let e : opens m (suc n) ≡ opens m n + from_bool (is_open m n) = opens-suc m n in
    elim (cases_eq n p) [
      | inl here ↦
          let one : from_bool (is_open m n) ≡ 1 = ap from_bool (ap (is_open m) here ∙ on) in
          absurd (omega arith)
      | inr other ↦ none_below m n (omega arith) p (omega arith) on
    ]

-- ---- flags that are set

pub get-here : (flags : List Bool) (at : ℕ) → at < length flags → get_or (set flags at true) at false ≡ true
get-here [] at lt = absurd (omega arith)
get-here (x ∷ xs) zero lt = refl
get-here (x ∷ xs) (suc at) lt = get-here xs at (omega arith)

pub get-other : (flags : List Bool) (at p : ℕ) → p ≢ at → get_or (set flags at true) p false ≡ get_or flags p false
get-other [] zero p other = refl
get-other [] (suc at) p other = refl
get-other (x ∷ xs) zero zero other = absurd (other refl)
get-other (x ∷ xs) zero (suc p) other = refl
get-other (x ∷ xs) (suc at) zero other = refl
get-other (x ∷ xs) (suc at) (suc p) other = get-other xs at p (λ e. other (ap suc e))

pub get-none : (n p : ℕ) → get_or (replicate n false) p false ≡ false
get-none zero p = refl
get-none (suc n) zero = refl
get-none (suc n) (suc p) = get-none n p

pub opens-none : (k n : ℕ) → opens (no_marks k) n ≡ 0
opens-none k zero = opens-zero (no_marks k)
opens-none k (suc n) =
    opens-suc (no_marks k) n
    ∙ ap (λ (b : Bool). opens (no_marks k) n + from_bool (b && not b)) (get-none k n)
    ∙ (let rest = opens-none k n in omega arith)

-- ---- one mark more

-- What marks keep, their sizes and the count, is kept when one more is set.
module _ (wanted had : List Bool) (now : Marks) (place len count : ℕ) (is : record { wanted = wanted; had = had } ≡ now)
    (kept : (length wanted ≡ len) × (length had ≡ len) × (count ≡ opens (record { wanted = wanted; had = had }) len))
    (there : place < length now.wanted) where
  abbrev old : Marks
  old = record { wanted = wanted; had = had }

  lt : place < len
  lt = subst (λ (n : ℕ). place < n) (kept.0) (subst (λ (m : Marks). place < length m.wanted) (sym is) there)

  want-counted : count + from_bool (is_blank old place) ≡ opens (record { wanted = set wanted place true; had = had }) len
  want-counted =
      let within = lt in let size = kept.0 in let counted = kept.2 in
      let e = opens-but old (record { wanted = set wanted place true; had = had }) place
      (λ p other. ap (λ (b : Bool). b && not (get_or had p false)) (get-other wanted place p other)) len within in
      let f = ap (λ (b : Bool). from_bool (b && not (get_or had place false))) (get-here wanted place (omega arith)) in
      let g = split (get_or wanted place false) (get_or had place false) in omega arith
    where
      split : (w h : Bool) → from_bool (not h) ≡ from_bool (w && not h) + from_bool (not w && not h)
      split true true = refl
      split true false = refl
      split false true = refl
      split false false = refl

  have-counted : count ≡ opens (record { wanted = wanted; had = set had place true }) len + from_bool (is_open old place)
  have-counted =
      let within = lt in let size = kept.1 in let counted = kept.2 in
      let e = opens-but old (record { wanted = wanted; had = set had place true }) place
      (λ p other. ap (λ (b : Bool). get_or wanted p false && not b) (get-other had place p other)) len within in
      let f = ap (λ (b : Bool). from_bool (get_or wanted place false && not b)) (get-here had place (omega arith)) in
      let g = closed (get_or wanted place false) in omega arith
    where
      closed : (w : Bool) → from_bool (w && not true) ≡ 0
      closed true = refl
      closed false = refl

  pub want-kept : (new : List Bool) (blank : Bool) (more : ℕ) → new ≡ set wanted place true → blank ≡ is_blank now place
      → more ≡ from_bool blank
      → (length new ≡ len) × (length had ≡ len) × (count + more ≡ opens (record { wanted = new; had = had }) len)
  want-kept new blank more set_is told one = rw (one, told, ← is, set_is) (length-set wanted place true ∙ kept.0, kept.1, want-counted)

  pub have-kept : (new : List Bool) (opened : Bool) (fewer : ℕ) → new ≡ set had place true → opened ≡ is_open now place
      → fewer ≡ from_bool opened
      → (length wanted ≡ len) × (length new ≡ len) × (count ≡ opens (record { wanted = wanted; had = new }) len + fewer)
  have-kept new opened fewer set_is told one = rw (one, told, ← is, set_is) (kept.0, length-set had place true ∙ kept.1, have-counted)

pub none-first : (len : ℕ) (wanted had : List Bool) → wanted ≡ replicate len false → had ≡ replicate len false
    → 0 ≡ opens (record { wanted = wanted; had = had }) len
none-first len wanted had w h =
    let e : record { wanted = wanted; had = had } ≡ no_marks len = λ i. record { wanted = w i; had = h i } in
    sym (ap (λ (m : Marks). opens m len) e ∙ opens-none len len)

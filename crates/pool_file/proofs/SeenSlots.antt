-- The slots that a save has met, each at its number.
use Rattle.std.proofs.Common.{◌≡◌, ◌⊎◌, ◌↔◌, ℕ, zero, suc, ◌<◌, inl, inr, List, [], ◌∷◌, ◌++◌, length, set, Option, None, Some, refl, sym, ap, subst, ◌∙◌, append_assoc, arith}
use Rattle.std.specs.Prelude.{slice_get}
use Rattle.std.specs.List.{Contains}
use Rattle.std.proofs.lemmas.Bool.{cases_eq}
use Rattle.std.proofs.lemmas.List.{append-nil}
use Rattle.std.proofs.lemmas.List.Elements.{Contains-append_left, Contains-push, Contains-push_cases}
use Rattle.pool_file.specs.Slots.{AreSeen, KeepsSlots, Sees}

module _ {X : Type 0} where
  -- what stands in a list of which one place was written
  pub set_there : (xs : List X) (i s : ℕ) (v x : X) → slice_get (set xs i v) s ≡ Some x
      → ((s ≡ i) × (x ≡ v)) ⊎ (slice_get xs s ≡ Some x)
  set_there [] i s v x e = inr e
  set_there (y ∷ xs) zero zero v x e = inl (refl, cc)
  set_there (y ∷ xs) zero (suc s) v x e = inr e
  set_there (y ∷ xs) (suc i) zero v x e = inr e
  set_there (y ∷ xs) (suc i) (suc s) v x e = by (set_there xs i s v x e)
    where
      by : ((s ≡ i) × (x ≡ v)) ⊎ (slice_get xs s ≡ Some x)
          → ((suc s ≡ suc i) × (x ≡ v)) ⊎ (slice_get xs s ≡ Some x)
      by (inl same) = inl (ap (λ (n : ℕ). suc n) same.0, same.1)
      by (inr rest) = inr rest

  -- what was written stands there
  pub set_here : (xs : List X) (i : ℕ) (v : X) → i < length xs → slice_get (set xs i v) i ≡ Some v
  set_here [] i v l = absurd (omega (arith, l))
  set_here (y ∷ xs) zero v l = refl
  set_here (y ∷ xs) (suc i) v l = set_here xs i v (omega (arith, l))

  -- what stands elsewhere stays
  pub set_other : (xs : List X) (i s : ℕ) (v x : X) → (s ≡ i → ⊥) → slice_get xs s ≡ Some x
      → slice_get (set xs i v) s ≡ Some x
  set_other [] i s v x never e = e
  set_other (y ∷ xs) zero zero v x never e = absurd (never refl)
  set_other (y ∷ xs) zero (suc s) v x never e = e
  set_other (y ∷ xs) (suc i) zero v x never e = e
  set_other (y ∷ xs) (suc i) (suc s) v x never e =
      set_other xs i s v x (λ same. never (ap (λ (n : ℕ). suc n) same)) e

  -- one more place is not one of the others
  pushed_there : (xs : List (Option X)) (n : ℕ) (x : X)
      → slice_get (xs ++ None ∷ []) n ≡ Some (Some x) ↔ slice_get xs n ≡ Some (Some x)
  pushed_there [] zero x = (λ e. cc, λ e. cc)
  pushed_there [] (suc n) x = (λ e. cc, λ e. cc)
  pushed_there (y ∷ xs) zero x = (λ e. e, λ e. e)
  pushed_there (y ∷ xs) (suc n) x = pushed_there xs n x

pub keeps_same : (seen : List (Option ℕ)) → KeepsSlots seen seen
keeps_same seen = λ n s. (λ e. e, λ e. e)

pub keeps_more : (old now new : List (Option ℕ)) → KeepsSlots old now → new ≡ now ++ None ∷ []
    → KeepsSlots old new
keeps_more old now new keeps pushed = subst (KeepsSlots old) (sym pushed) (λ n s. (
  λ e. (keeps n s).0 ((pushed_there now n s).0 e),
  λ e. (pushed_there now n s).1 ((keeps n s).1 e),
))

-- a slot is noted at its number
pub sees_one : (old now new : List (Option ℕ)) (slot : ℕ) → KeepsSlots old now → slot < length now
    → new ≡ set now slot (Some slot) → Sees old new (slot ∷ [])
sees_one old now new slot keeps within written = λ slots seen.
    subst (λ (l : List (Option ℕ)). AreSeen l (slots ++ slot ∷ [])) (sym written) (record {
      each = λ n s e. each slots seen n s (set_there now slot n (Some slot) (Some s) e);
      all = λ s c. all slots seen s (cases_eq s slot) (Contains-push_cases slots slot s c);
    })
  where
    each : (slots : List ℕ) → AreSeen old slots → (n s : ℕ)
        → ((n ≡ slot) × (Some s ≡ Some slot)) ⊎ (slice_get now n ≡ Some (Some s))
        → (s ≡ n) × Contains (slots ++ slot ∷ []) s
    each slots seen n s (inl here) =
        let one = here.0 in let two = here.1 in
        let same : s ≡ slot = cc in
        (same ∙ sym one, subst (Contains (slots ++ slot ∷ [])) (sym same) (Contains-push slots slot))
    each slots seen n s (inr there) =
        let was = seen.each n s ((keeps n s).0 there) in
        (was.0, Contains-append_left slots (slot ∷ []) s was.1)

    there : (s : ℕ) → slice_get now s ≡ Some (Some s) → (s ≡ slot) ⊎ (s ≡ slot → ⊥)
        → slice_get (set now slot (Some slot)) s ≡ Some (Some s)
    there s e (inl same) =
        subst (λ (t : ℕ). slice_get (set now slot (Some slot)) t ≡ Some (Some t)) (sym same)
        (set_here now slot (Some slot) within)
    there s e (inr never) = set_other now slot s (Some slot) (Some s) never e

    all : (slots : List ℕ) → AreSeen old slots → (s : ℕ) → (s ≡ slot) ⊎ (s ≡ slot → ⊥)
        → Contains slots s ⊎ (slot ≡ s) → slice_get (set now slot (Some slot)) s ≡ Some (Some s)
    all slots seen s same (inl c) = there s ((keeps s s).1 (seen.all s c)) same
    all slots seen s same (inr e) =
        subst (λ (t : ℕ). slice_get (set now slot (Some slot)) t ≡ Some (Some t)) e
        (set_here now slot (Some slot) within)

pub sees_none : (seen : List (Option ℕ)) → Sees seen seen []
sees_none seen = λ slots are. subst (AreSeen seen) (sym (append-nil slots)) are

pub sees_on : (old now new : List (Option ℕ)) (first second both : List ℕ) → Sees old now first
    → Sees now new second → both ≡ first ++ second → Sees old new both
sees_on old now new first second both one other is = λ slots are.
    subst (AreSeen new)
    (append_assoc slots first second ∙ ap (λ (l : List ℕ). slots ++ l) (sym is))
    (other (slots ++ first) (one slots are))

pub seen_none : (seen : List (Option ℕ)) → seen ≡ [] → AreSeen seen []
seen_none seen none = subst (λ (l : List (Option ℕ)). AreSeen l []) (sym none) (record {
  each = λ n s e. cc;
  all = λ s c. absurd (let l = c.1 in omega (arith, l));
})

-- One step on the way to the first member that passes a test.
use Rattle.std.proofs.Common.{◌≡◌, ℕ, zero, suc, ◌-◌, ◌<◌, Bool, true, false, Option, None, Some, refl, ◌∙◌, arith}
use Rattle.std.specs.Option.{option_and_then}
use Rattle.git_model.specs.Peeling.{first_within}

module _ {A : Type 0} (test : A → Bool) (next : A → Option A) where
  pub first-here : (n : ℕ) (a : A) → test a ≡ true → first_within test next n a ≡ Some a
  unfolding first_within
  first-here zero a e = rw e refl
  first-here (suc n) a e = rw e refl

  pub first-end : (a : A) → test a ≡ false → first_within test next 0 a ≡ None
  unfolding first_within
  first-end a e = rw e refl

  pub first-step : (n : ℕ) (a : A) → test a ≡ false
      → first_within test next (suc n) a ≡ option_and_then (first_within test next n) (next a)
  unfolding first_within
  first-step n a e = rw e refl

  -- with at least one step left
  pub first-more : (n : ℕ) (a : A) (o : Option A) → 0 < n → test a ≡ false → next a ≡ o
      → first_within test next n a ≡ option_and_then (first_within test next (n - 1)) o
  first-more zero a o more e is = absurd (omega arith)
  first-more (suc n) a o more e is =
      let less : suc n - 1 ≡ n = omega arith in
      first-step n a e ∙ rw (is, less) refl

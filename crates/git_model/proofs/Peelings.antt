-- Within as many steps as its rank, a way comes to its first member that passes a test, where there
-- is one.
use Rattle.std.proofs.Common.{◌≡◌, ℕ, zero, suc, ◌<◌, ◌≤◌, Bool, true, false, List, IsTrue, Option, None, Some, refl, sym, ap, subst, ◌∙◌, ◌↔◌, inl, inr, arith}
use Rattle.std.proofs.lemmas.Bool.{cases_Bool}
use Rattle.std.specs.Option.{option_and_then, option_map}
use Rattle.std.specs.Str.{bytes_eq}
use Rattle.std.proofs.lemmas.Slice.Eq.{bytes_eq-Decides}
use Rattle.git_model.specs.declared.kind.Kind.{Kind}
use Rattle.git_model.specs.Kind.{kind_word}
use Rattle.git_model.specs.TagReading.{kind_named_by}
use Rattle.git_model.specs.Content.{Content}
use Rattle.git_model.specs.Repository.{Object, object_named}
use Rattle.git_model.specs.References.{kind_named}
use Rattle.git_model.proofs.TagReadings.{kind_back}
use Rattle.git_model.specs.Peeling.{has_kind, is_of, first_within, ComesFirstTo, at_once, later}

module _ {A : Type 0} (test : A → Bool) (next : A → Option A) where
  there : (n : ℕ) (a : A) → test a ≡ true → first_within test next n a ≡ Some a
  unfolding first_within
  there zero a e = rw e refl
  there (suc n) a e = rw e refl

  no_further : (a : A) → test a ≡ false → first_within test next 0 a ≡ None
  unfolding first_within
  no_further a e = rw e refl

  onward : (n : ℕ) (a : A) → test a ≡ false
      → first_within test next (suc n) a ≡ option_and_then (first_within test next n) (next a)
  unfolding first_within
  onward n a e = rw e refl

  found : (n : ℕ) (a c : A) → first_within test next n a ≡ Some c → ComesFirstTo test next a c
  found zero a c f = elim (cases_Bool (test a)) [
    | inl yea ↦
        (let is : a ≡ c = let t = there 0 a yea in cc in subst (λ x. ComesFirstTo test next a x) is
        (at_once a yea))
    | inr nay ↦ (let t = no_further a nay in cc)
  ]
  found (suc n) a c f = elim (cases_Bool (test a)) [
    | inl yea ↦
        (let is : a ≡ c = let t = there (suc n) a yea in cc in subst
        (λ x. ComesFirstTo test next a x) is (at_once a yea))
    | inr nay ↦ on (λ b. found n b c) nay (next a) refl (sym (onward n a nay) ∙ f)
  ]
    where
      on : ((b : A) → first_within test next n b ≡ Some c → ComesFirstTo test next b c)
          → test a ≡ false → (o : Option A) → next a ≡ o
          → option_and_then (first_within test next n) o ≡ Some c → ComesFirstTo test next a c
      on rest nay None e g = cc
      on rest nay (Some b) e g = later a b c nay e (rest b g)

  module _ (rank : A → ℕ) (falls : (a b : A) → next a ≡ Some b → rank b < rank a) where
    comes : {a c : A} → ComesFirstTo test next a c → (n : ℕ) → rank a ≤ n
        → first_within test next n a ≡ Some c
    comes (at_once a yea) n within = there n a yea
    comes (later a b c nay e rest) zero within = let lt = falls a b e in absurd (omega arith)
    comes (later a b c nay e rest) (suc n) within =
        let lt = falls a b e in
        onward n a nay ∙ ap (option_and_then (first_within test next n)) e
        ∙ comes rest n (omega arith)

    pub first_is : (n : ℕ) (a c : A) → rank a ≤ n → (first_within test next n a ≡ Some c)
        ↔ ComesFirstTo test next a c
    first_is n a c within = (found n a c, λ way. comes way n within)

-- ---- the test of a kind

kind_is : (a b : Kind) → bytes_eq (kind_word a) (kind_word b) ≡ true → a ≡ b
kind_is a b e =
    sym (kind_back a) ∙ ap kind_named_by ((bytes_eq-Decides (kind_word a) (kind_word b)).0 e)
    ∙ kind_back b

of_option : (wanted : Kind) (o : Option Content) → (has_kind wanted o ≡ true)
    ↔ (option_map (λ (c : Content). c.kind) o ≡ Some wanted)
of_option wanted None = (λ e. cc, λ e. cc)
of_option wanted (Some c) = (
  λ e. ap (λ (k : Kind). Some k) (kind_is c.kind wanted e),
  λ e. let is : c.kind ≡ wanted = cc in (bytes_eq-Decides (kind_word c.kind) (kind_word wanted)).1
      (ap kind_word is),
)

pub is_of_kind : (os : List Object) (wanted : Kind) (id : List ℕ) → IsTrue (is_of os wanted id)
    ↔ (kind_named id os ≡ Some wanted)
is_of_kind os wanted id = of_option wanted (object_named id os)

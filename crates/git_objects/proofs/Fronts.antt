-- Parts at the front of a text, one after the other.
use Rattle.std.proofs.Common.{◌≡◌, ℕ, List, ◌++◌, refl, sym, ap, ◌∙◌, Option, Some, None}
use Rattle.std.specs.Option.{option_map}
use Rattle.std.proofs.lemmas.List.{append_assoc, append_cancel_left}
use Rattle.std.proofs.lemmas.Option.{none-some, some_pair_parts}
use Rattle.git_objects.specs.Fronts.{IsFront}

-- nothing is read where the bytes begin with no such text
pub no_front : {X : Type 0} {Is : X → Type 0} {text : X → List ℕ} (bytes : List ℕ)
    → ((x : X) (rest : List ℕ) → Is x → bytes ≡ text x ++ rest → ⊥) → IsFront Is text bytes None
no_front bytes none = record { found = tt; only = λ x rest is e. absurd (none x rest is e) }

module _ {X Y : Type 0} (A : X → Type 0) (B : Y → Type 0) (a : X → List ℕ) (b : Y → List ℕ) where
  -- two parts in a row
  abbrev pub Both : X × Y → Type 0
  Both p = A p.0 × B p.1

  abbrev pub both : X × Y → List ℕ
  both p = a p.0 ++ b p.1

  pub first_missing : (bytes : List ℕ) → IsFront A a bytes None → IsFront Both both bytes None
  first_missing bytes f =
      no_front bytes
      (λ p rest is e. none-some _ (f.only p.0 (b p.1 ++ rest) is.0 (e ∙ append_assoc (a p.0) (b p.1) rest)))

  pub second_missing : (bytes : List ℕ) (x : X) (between : List ℕ)
      → IsFront A a bytes (Some (x, between)) → IsFront B b between None
      → IsFront Both both bytes None
  second_missing bytes x between f g = no_front bytes (λ p rest is e.
      let same =
      some_pair_parts _ _ _ _
      (f.only p.0 (b p.1 ++ rest) is.0 (e ∙ append_assoc (a p.0) (b p.1) rest)) in
      none-some _ (g.only p.1 rest is.1 same.1))

  pub both_there : (bytes : List ℕ) (x : X) (between : List ℕ) (y : Y) (remaining : List ℕ)
      → IsFront A a bytes (Some (x, between)) → IsFront B b between (Some (y, remaining))
      → IsFront Both both bytes (Some ((x, y), remaining))
  both_there bytes x between y remaining f g = record {
    found =
        ((f.found.0, g.found.0), f.found.1 ∙ ap (λ rest. a x ++ rest) g.found.1 ∙ sym (append_assoc (a x) (b y) remaining));
    only = λ p rest is e.
        let same =
        some_pair_parts _ _ _ _
        (f.only p.0 (b p.1 ++ rest) is.0 (e ∙ append_assoc (a p.0) (b p.1) rest)) in
        let more = some_pair_parts _ _ _ _ (g.only p.1 rest is.1 same.1) in
        rw (same.0, more.0, more.1) refl;
  }

-- the same parts under other names: f and g name each other's values
module _ {X Y : Type 0} {A : X → Type 0} {B : Y → Type 0} {a : X → List ℕ} {b : Y → List ℕ}
    (f : X → Y) (g : Y → X) where
  pub renamed : (bytes : List ℕ) (read : Option (X × List ℕ)) → ((y : Y) → f (g y) ≡ y)
      → ((x : X) → A x → B (f x)) → ((y : Y) → B y → A (g y)) → ((x : X) → a x ≡ b (f x))
      → ((y : Y) → b y ≡ a (g y))
      → IsFront A a bytes read
      → IsFront B b bytes (option_map (λ (r : X × List ℕ). (f r.0, r.1)) read)
  renamed bytes None there is back text text_back h =
      no_front bytes
      (λ y rest at e. none-some _ (h.only (g y) rest (back y at) (e ∙ ap (λ t. t ++ rest) (text_back y))))
  renamed bytes (Some r) there is back text text_back h = record {
    found = (is r.0 h.found.0, h.found.1 ∙ ap (λ t. t ++ r.1) (text r.0));
    only = λ y rest at e.
        let same =
        some_pair_parts _ _ _ _
        (h.only (g y) rest (back y at) (e ∙ ap (λ t. t ++ rest) (text_back y))) in
        rw (same.0, there y, same.1) refl;
  }

-- the same after a front that each text has
pub prefixed : {X : Type 0} {Is : X → Type 0} {a b : X → List ℕ} (front bytes remaining : List ℕ) (read : Option (X × List ℕ))
    → ((x : X) → b x ≡ front ++ a x) → bytes ≡ front ++ remaining → IsFront Is a remaining read
    → IsFront Is b bytes read
prefixed {X} {Is} {a} {b} front bytes remaining read text e h = by_cases read h
  where
    cut : (x : X) (rest : List ℕ) → bytes ≡ b x ++ rest → remaining ≡ a x ++ rest
    cut x rest e' =
        append_cancel_left front remaining (a x ++ rest)
        (sym e ∙ e' ∙ ap (λ t. t ++ rest) (text x) ∙ append_assoc front (a x) rest)

    by_cases : (read : Option (X × List ℕ)) → IsFront Is a remaining read → IsFront Is b bytes read
    by_cases None h =
        no_front bytes (λ x rest is e'. none-some _ (h.only x rest is (cut x rest e')))
    by_cases (Some r) h = record {
      found =
          (h.found.0, e ∙ ap (λ t. front ++ t) h.found.1 ∙ sym (append_assoc front (a r.0) r.1) ∙ ap (λ t. t ++ r.1) (sym (text r.0)));
      only = λ x rest is e'. h.only x rest is (cut x rest e');
    }

-- what is read further: values y that g shows in what was read
module _ {X Y : Type 0} {A : X → Type 0} {B : Y → Type 0} {a : X → List ℕ} {b : Y → List ℕ}
    (g : Y → X) (back : (y : Y) → B y → A (g y)) (text : (y : Y) → b y ≡ a (g y)) where
  pub refined_missing : (bytes : List ℕ) → IsFront A a bytes None → IsFront B b bytes None
  refined_missing bytes h =
      no_front bytes
      (λ y rest is e. none-some _ (h.only (g y) rest (back y is) (e ∙ ap (λ t. t ++ rest) (text y))))

  pub refined_wrong : (bytes : List ℕ) (x : X) (r : List ℕ) → IsFront A a bytes (Some (x, r))
      → ((y : Y) → B y → x ≡ g y → ⊥) → IsFront B b bytes None
  refined_wrong bytes x r h wrong =
      no_front bytes
      (λ y rest is e. wrong y is (some_pair_parts _ _ _ _ (h.only (g y) rest (back y is) (e ∙ ap (λ t. t ++ rest) (text y)))).0)

  pub refined_there : (bytes : List ℕ) (x : X) (r : List ℕ) → IsFront A a bytes (Some (x, r))
      → (y : Y) → B y → x ≡ g y → ((z : Y) → B z → g y ≡ g z → y ≡ z)
      → IsFront B b bytes (Some (y, r))
  refined_there bytes x r h y is shown same = record {
    found = (is, h.found.1 ∙ ap (λ t. t ++ r) (ap a shown ∙ sym (text y)));
    only = λ z rest is' e.
        let parts =
        some_pair_parts _ _ _ _
        (h.only (g z) rest (back z is') (e ∙ ap (λ t. t ++ rest) (text z))) in
        rw (same z is' (sym shown ∙ parts.0), parts.1) refl;
  }

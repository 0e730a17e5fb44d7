-- The tests of components, of paths and of limits say what they are named for.
use Rattle.std.proofs.Common.{◌≡◌, ◌≢◌, ℕ, Bool, true, false, not, List, [], ◌∷◌, All, refl, sym, ◌∙◌, eqb}
use Rattle.std.specs.Prelude.{codes}
use Rattle.std.specs.List.{list_any}
use Rattle.std.specs.Str.{bytes_eq}
use Rattle.std.specs.Cmp.{first_so, second_so}
use Rattle.std.proofs.lemmas.Bool.{not-true, false_from_ne_true, false≢true, true≢false, eqb-false, ne_eqb, le-leb, leb-true}
use Rattle.std.proofs.lemmas.Slice.Eq.{bytes_eq-Decides}
use Rattle.std.proofs.lemmas.List.Folds.{list_any_none}
use Rattle.std.proofs.lemmas.List.Sums.{AllPass-from_list_all, list_all-from_AllPass}
use Rattle.std.proofs.lemmas.List.Elements.{All-nil, All-cons, All-weaker}
use Rattle.git_paths.specs.Paths.{IsComponent, IsPath, IsWithinLimits, is_slash, is_part, is_component, is_path, is_within_limits}
use Rattle.git_paths.proofs.Cases.{by_cases}

-- no element passes a test that is not passed by any
none_pass : (p : ℕ → Bool) (xs : List ℕ) → list_any p xs ≡ false → All (λ x. p x ≡ false) xs
none_pass p [] h = All-nil (λ x. p x ≡ false)
none_pass p (x ∷ xs) h =
    by_cases (p x)
    (λ yea. absurd (true≢false (rw yea at h)))
    (λ nay. All-cons (λ x. p x ≡ false) x xs nay (none_pass p xs (rw nay at h)))

differs : (xs ys : List ℕ) → bytes_eq xs ys ≡ false → xs ≢ ys
differs xs ys h e = false≢true (sym h ∙ (bytes_eq-Decides xs ys).1 e)

same_not : (xs ys : List ℕ) → xs ≢ ys → bytes_eq xs ys ≡ false
same_not xs ys h = false_from_ne_true (bytes_eq xs ys) (λ e. h ((bytes_eq-Decides xs ys).0 e))

-- ---- a component

pub IsComponent-from_test : (name : List ℕ) → is_component name ≡ true → IsComponent name
unfolding is_part
IsComponent-from_test name h =
    let a = first_so _ (not (list_any is_slash name)) h in
    let b = first_so _ (not (list_any (λ b. eqb b 0) name)) a in
    let c = first_so _ (not (bytes_eq name (codes ".."))) b in
    record {
      no_nul =
          All-weaker _ (λ b. b ≢ 0) (λ x t. eqb-false x 0 t) name
          (none_pass (λ b. eqb b 0) name (not-true _ (second_so _ _ a)));
      no_slash =
          All-weaker _ (λ b. b ≢ 47) (λ x t. eqb-false x 47 t) name
          (none_pass is_slash name (not-true _ (second_so _ _ h)));
      not_empty = differs name [] (not-true _ (first_so _ _ c));
      not_dot = differs name (codes ".") (not-true _ (second_so _ _ c));
      not_dot_dot = differs name (codes "..") (not-true _ (second_so _ _ b));
    }

pub test-from_IsComponent : (name : List ℕ) → IsComponent name → is_component name ≡ true
unfolding is_part
test-from_IsComponent name h =
    let nul : list_any (λ b. eqb b 0) name ≡ false =
    list_any_none _ name
    (All-weaker (λ b. b ≢ 0) _ (λ x t. ne_eqb x 0 t) name h.no_nul) in
    let slash : list_any is_slash name ≡ false =
    list_any_none _ name
    (All-weaker (λ b. b ≢ 47) _ (λ x t. ne_eqb x 47 t) name h.no_slash) in
    rw (same_not name [] h.not_empty, same_not name (codes ".") h.not_dot, same_not name (codes "..") h.not_dot_dot, nul, slash) refl

-- ---- a path

pub IsPath-from_test : (path : List (List ℕ)) → is_path path ≡ true → IsPath path
IsPath-from_test path test =
    let pass = AllPass-from_list_all is_component path test in
    λ k d lt. IsComponent-from_test _ (pass k d lt)

pub test-from_IsPath : (path : List (List ℕ)) → IsPath path → is_path path ≡ true
test-from_IsPath path h =
    list_all-from_AllPass is_component path (λ k d lt. test-from_IsComponent _ (h k d lt))

-- ---- limits

pub IsWithinLimits-from_test : (path : List (List ℕ)) → is_within_limits path ≡ true
    → IsWithinLimits path
IsWithinLimits-from_test path h = record { bytes = leb-true _ _ (first_so _ _ h); components = leb-true _ _ (second_so _ _ h) }

pub test-from_IsWithinLimits : (path : List (List ℕ)) → IsWithinLimits path
    → is_within_limits path ≡ true
test-from_IsWithinLimits path h = rw (le-leb _ _ h.bytes, le-leb _ _ h.components) refl

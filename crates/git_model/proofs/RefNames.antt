-- The test of ref names decides their rules.
use Rattle.std.proofs.Common.{◌≡◌, ℕ, List, [], ◌∷◌, false, not, refl, codes}
use Rattle.std.specs.Bool.{Decides}
use Rattle.std.proofs.lemmas.Bool.{not-true, not_from_false}
use Rattle.git_model.specs.Bytes.{BeginsWith, EndsWith}
use Rattle.git_model.specs.RefName.{IsRefName, components, is_forbidden, is_ref_component, is_ref_name}
use Rattle.git_model.proofs.Texts.{begins_test, ends_test, holds_test, all_test, not_test, and_test, all_weaker, all_three}

pub IsRefComponent : List ℕ → Type 0
IsRefComponent c = (¬ BeginsWith c (codes ".")) × (¬ EndsWith c (codes ".lock")) × (¬ (c ≡ []))

component_test : (c : List ℕ) → Decides (is_ref_component c) (IsRefComponent c)
unfolding IsRefComponent
component_test [] = (λ e. cc, λ h. absurd (h.2 refl))
component_test (x ∷ xs) =
    let both = and_test _ _ (not_test _ (begins_test (x ∷ xs) (codes ".")))
    (not_test _ (ends_test (x ∷ xs) (codes ".lock"))) in
    (λ e. ((both.0 e).0, (both.0 e).1, λ is_nil. cc), λ h. both.1 (h.0, h.1))

forbidden_test : (byte : ℕ) → Decides (not (is_forbidden byte)) (is_forbidden byte ≡ false)
forbidden_test byte = (λ e. not-true _ e, λ e. not_from_false _ e)

pub is_ref_name-Decides : (text : List ℕ) → Decides (is_ref_name text) (IsRefName text)
unfolding is_ref_name IsRefComponent
is_ref_name-Decides text =
    let in_refs = and_test _ _ (begins_test text (codes "refs/"))
    (not_test _ (begins_test text (codes "refs/namespaces/"))) in
    let whole = and_test _ _
    (and_test _ _
    (and_test _ _ (not_test _ (holds_test text (codes "..")))
    (not_test _ (holds_test text (codes "@{"))))
    (not_test _ (ends_test text (codes ".")))) (all_test _ _ forbidden_test text) in
    let d = and_test _ _ (and_test _ _ in_refs whole)
    (all_test _ _ component_test (components text)) in (
      λ e. let h = d.0 e in record {
        no_component_begins_with_a_dot = all_weaker (λ c p. p.0) (components text) h.1;
        no_component_ends_with_lock = all_weaker (λ c p. p.1) (components text) h.1;
        no_two_dots = h.0.1.0.0.0;
        no_forbidden_byte = h.0.1.1;
        no_empty_component = all_weaker (λ c p. p.2) (components text) h.1;
        no_dot_at_the_end = h.0.1.0.1;
        no_at_brace = h.0.1.0.0.1;
        begins_with_refs = h.0.0.0;
        is_no_namespace = h.0.0.1;
      },
      λ r. d.1 (
        (
          (r.begins_with_refs, r.is_no_namespace),
          (((r.no_two_dots, r.no_at_brace), r.no_dot_at_the_end), r.no_forbidden_byte),
        ),
        all_three (λ c p q n. (p, q, n))
            (components text) r.no_component_begins_with_a_dot r.no_component_ends_with_lock r.no_empty_component,
      ),
    )

-- The tests of names decide their rules.
use Rattle.std.proofs.Common.{◌≡◌, ℕ, ◌≤◌, List, [], ◌∷◌, Bool, true, nat_le, length, codes, refl}
use Rattle.std.specs.List.{AllByRecursion}
use Rattle.std.specs.Bool.{Decides}
use borrow.Author.Tests.{leb-true, le-leb}
use Rattle.git_model.specs.Bytes.{BeginsWith}
use Rattle.git_model.proofs.Texts.{begins_test, not_test, and_test, all_test, all_weaker, all_three}
use Rattle.tenant_refs.specs.declared.tenant_name.TheConstants.{TENANT_NAME_LIMIT}
use Rattle.tenant_refs.specs.TenantName.{IsTenantName, is_tenant_name, parts_of, is_part, is_part_byte}

IsPart : List ℕ → Type 0
IsPart part =
    (¬ (part ≡ [])) × (¬ BeginsWith part (codes "-")) × AllByRecursion (λ byte. is_part_byte byte ≡ true) part

≤_test : (a b : ℕ) → Decides (nat_le a b) (a ≤ b)
≤_test a b = (λ e. leb-true a b e, λ h. le-leb a b h)

itself : (b : Bool) → Decides b (b ≡ true)
itself b = (λ e. e, λ e. e)

part_test : (part : List ℕ) → Decides (is_part part) (IsPart part)
unfolding IsPart
part_test [] = (λ e. cc, λ h. absurd (h.0 refl))
part_test (x ∷ xs) =
    let both = and_test _ _ (not_test _ (begins_test (x ∷ xs) (codes "-"))) (all_test is_part_byte (λ byte. is_part_byte byte ≡ true) (λ byte. itself (is_part_byte byte)) (x ∷ xs)) in
    (λ e. (λ is_nil. cc, (both.0 e).0, (both.0 e).1), λ h. both.1 (h.1, h.2))

pub is_tenant_name-Decides : (text : List ℕ) → Decides (is_tenant_name text) (IsTenantName text)
unfolding is_tenant_name IsPart
is_tenant_name-Decides text =
    let d = and_test _ _ (≤_test (length text) TENANT_NAME_LIMIT) (all_test is_part IsPart part_test (parts_of text)) in (
      λ e. let h = d.0 e in record {
        no_part_is_empty = all_weaker (λ c p. p.0) (parts_of text) h.1;
        no_part_begins_with_a_dash = all_weaker (λ c p. p.1) (parts_of text) h.1;
        only_part_bytes = all_weaker (λ c p. p.2) (parts_of text) h.1;
        at_most_64_bytes = h.0;
      },
      λ r. d.1 (r.at_most_64_bytes, all_three (λ c p q n. (p, q, n)) (parts_of text) r.no_part_is_empty r.no_part_begins_with_a_dash r.only_part_bytes),
    )

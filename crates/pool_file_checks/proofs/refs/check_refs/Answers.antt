use Rattle.std.proofs.Common.{◌⊎◌, refl, sym, subst, inl, inr}
use Rattle.std.proofs.lemmas.Bool.{iff_false}
use Rattle.git_model.specs.GoodRepository.{IsShortRefName}
use Rattle.pool_file_checks.proofs.RefLemmas.{same_places, same_rising}
use Rattle.pool_file_checks.proofs.refs.check_refs.Goals as goal

-- The first two checks are passed.
past : {P Q X Y Z : Type 0} → P → Q → Z → X ⊎ (P × (Y ⊎ (Q × Z)))
past p q later = inr (p, inr (q, later))

pub returns-then-not-branch : goal.returns-then-not-branch
returns-then-not-branch c =
    inl (λ good. iff_false c.in_ok-has_good_refs.ensures c.if-not-branch.true good, refl)

pub returns-then-not-are_rising : goal.returns-then-not-are_rising
returns-then-not-are_rising c =
    let good = c.in_ok-has_good_refs.ensures.0 c.if-not-branch.false in
    let none = iff_false c.are_rising.ensures c.if-not-are_rising.true in
    inr (good, inl (λ rising. none (same_rising _ _ (sym c.deref.ensures.value) rising), refl))

pub returns-then-not-are_placed : goal.returns-then-not-are_placed
returns-then-not-are_placed c =
    past (c.in_ok-has_good_refs.ensures.0 c.if-not-branch.false) (same_rising _ _ c.deref.ensures.value (c.are_rising.ensures.0 c.if-not-are_rising.false))
    (inl (
      λ placed. iff_false c.are_placed.ensures c.if-not-are_placed.true (same_places _ _ _ _ (sym c.as_slice.ensures.value) (sym c.deref-2.ensures.value) placed),
      refl,
    ))

pub returns-then-not-is_short_ref_name : goal.returns-then-not-is_short_ref_name
returns-then-not-is_short_ref_name c =
    let placed = same_places _ _ _ _ c.as_slice.ensures.value c.deref-2.ensures.value (c.are_placed.ensures.0 c.if-not-are_placed.false) in
    let none = iff_false c.is_short_ref_name.ensures c.if-not-is_short_ref_name.true in
    past (c.in_ok-has_good_refs.ensures.0 c.if-not-branch.false) (same_rising _ _ c.deref.ensures.value (c.are_rising.ensures.0 c.if-not-are_rising.false))
    (inr (placed, inl (λ head. none (subst IsShortRefName (sym c.deref-3.ensures.value) head), refl)))

pub returns : goal.returns
returns c =
    let good = c.in_ok-has_good_refs.ensures.0 c.if-not-branch.false in
    let rising = same_rising _ _ c.deref.ensures.value (c.are_rising.ensures.0 c.if-not-are_rising.false) in
    let placed = same_places _ _ _ _ c.as_slice.ensures.value c.deref-2.ensures.value (c.are_placed.ensures.0 c.if-not-are_placed.false) in
    let head = subst IsShortRefName c.deref-3.ensures.value (c.is_short_ref_name.ensures.0 c.if-not-is_short_ref_name.false) in
    (good, (rising, (placed, (head, tt))))

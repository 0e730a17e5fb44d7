use Rattle.std.proofs.Common.{refl, inl, inr}
use Rattle.std.proofs.lemmas.Bool.{iff_false}
use Rattle.pool_file_checks.proofs.judging.check_object.Goals as goal

pub returns-then-not-branch : goal.returns-then-not-branch
returns-then-not-branch c =
    inl (λ can. iff_false c.in_ok-can_store.ensures c.if-not-branch.true can, refl)

pub returns-then-not-is_after : goal.returns-then-not-is_after
returns-then-not-is_after c =
    inr (
      c.in_ok-can_store.ensures.0 c.if-not-branch.false,
      inl (λ after. iff_false c.is_after.ensures c.if-not-is_after.true after, refl),
    )

pub returns : goal.returns
returns c =
    (c.in_ok-can_store.ensures.0 c.if-not-branch.false, (c.is_after.ensures.0 c.if-not-is_after.false, tt))

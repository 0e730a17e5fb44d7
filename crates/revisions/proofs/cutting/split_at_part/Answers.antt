use Rattle.std.proofs.Common.{◌≡◌, ℕ, List, nat_eq, drop, sym, ap, subst, ◌∙◌, arith}
use Rattle.std.specs.List.{starts_with}
use Rattle.revisions.proofs.Parting.{IsPassed, passed-more, passed-found, passed-all}
use Rattle.revisions.proofs.cutting.split_at_part.Goals as goal
use Rattle.revisions.proofs.cutting.split_at_part.Goals.{After-starts_with}

-- the test of the loop, over what is left of the text
tested : (c : After-starts_with)
    → starts_with nat_eq (drop c.loop-place.place c.args.text.now) c.args.part.now
    ≡ c.starts_with.result
tested c =
    ap (λ (t : List ℕ). starts_with nat_eq t c.args.part.now) (sym c.split_at.ensures.back)
    ∙ sym c.starts_with.ensures.value

pub returns-then-starts_with : goal.returns-then-starts_with
returns-then-starts_with c =
    rw (c.split_at.ensures.front, c.split_at-then-starts_with.ensures.back, c.split_at.ensures.back)
    (sym (passed-found c.args.part.now c.args.text.now c.loop-place.place (omega arith)
    (tested (goal.at.returns-then-starts_with c).After-starts_with ∙ c.if-starts_with.true)
    c.loop-place.invariant))

pub loop-place-preserved : goal.loop-place-preserved
loop-place-preserved c =
    passed-more c.args.part.now c.args.text.now c.loop-place.place (omega arith)
    (tested (goal.at.loop-place-preserved c).After-starts_with ∙ c.if-starts_with.false)
    c.loop-place.invariant

pub returns : goal.returns
returns c =
    sym (passed-all c.args.part.now c.args.text.now
    (subst (IsPassed c.args.part.now c.args.text.now) (omega arith) c.loop-place.invariant))

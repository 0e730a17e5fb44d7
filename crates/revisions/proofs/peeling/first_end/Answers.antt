use Rattle.std.proofs.Common.{◌≡◌, sym, ◌∙◌, ap, arith}
use Rattle.std.specs.Prelude.{unwrap_or}
use Rattle.git_model.specs.declared.kind.Kind.{Kind}
use Rattle.git_model.specs.declared.kind.Kind.TheVariants as kind
use Rattle.git_model.specs.HeldObjects.{AreHeld}
use Rattle.git_model.specs.Peeling.{next_to}
use Rattle.revisions.proofs.Steppings.{first-here, first-end, first-more}
use Rattle.revisions.proofs.peeling.first_end.Goals as goal
use Rattle.revisions.proofs.peeling.first_end.Goals.{In_ok-next}
use Rattle.revisions.proofs.peeling.first_end.Given.{Over}

-- what the object of this step leads to
next_is : (g : Over) (c : In_ok-next g) → AreHeld g.N.Naming.digest_of c.args.objects.now
    → next_to c.args.objects.now (unwrap_or c.args.wanted kind.Blob) c.way.at ≡ c.in_ok-next.field-0
next_is g c held =
    ap (λ (k : Kind). next_to c.args.objects.now k c.way.at) (sym c.unwrap_or-kind.ensures)
    ∙ sym (c.in_ok-next.ensures held)

pub returns-then-steps-eq0 : goal.returns-then-steps-eq0
returns-then-steps-eq0 g c =
    λ held. sym (c.way.invariant held
    ∙ rw c.if-steps-eq0.true (first-end _ _ c.way.at (sym c.is_end.ensures ∙ c.way-test.true)))

pub returns-in_default : goal.returns-in_default
returns-in_default g c =
    λ held. sym (c.way.invariant held
    ∙ first-more _ _ c.way.steps c.way.at _ (omega arith) (sym c.is_end.ensures ∙ c.way-test.true)
    (next_is g (goal.at.returns-in_default g c).In_ok-next held ∙ c.in_default.is))

pub way-preserved : goal.way-preserved
way-preserved g c =
    λ held. c.way.invariant held
    ∙ first-more _ _ c.way.steps c.way.at _ (omega arith) (sym c.is_end.ensures ∙ c.way-test.true)
    (next_is g (goal.at.way-preserved g c).In_ok-next held ∙ c.in-Some.is)

pub returns : goal.returns
returns g c =
    λ held. sym (c.way.invariant held
    ∙ first-here _ _ c.way.steps c.way.at (sym c.is_end.ensures ∙ c.way-test.false))

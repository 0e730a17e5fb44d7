use Rattle.std.proofs.Common.{ℕ, List, Ok, Err, sym, ◌∙◌, ap}
use Rattle.std.proofs.lemmas.Result.{err_from_is_err_and}
use Rattle.std.specs.Borrow.{Bor}
use Rattle.std.specs.Option.{option_map}
use Rattle.revisions.specs.Expressions.{Expression}
use Rattle.git_model.specs.Results.{and_then}
use Rattle.revisions.proofs.ReadingSteps.{AreParts, last_read, with_base, no_base, read_as}
use Rattle.revisions.proofs.Steps.{refused, went_on}
use Rattle.revisions.proofs.expression.Expression.read.Goals as goal
use Rattle.revisions.proofs.expression.Expression.read.Goals.{After-is_base}

parts : (c : After-is_base)
    → AreParts c.args.text.now c.split_at_mark.result.0.now c.split_at_mark.result.1.now
    (option_map (λ (p : Bor (List ℕ)). p.now) c.split_at_colon.result.1)
parts c = record {
  both = c.split_at_mark.ensures.both ∙ c.split_at_colon.ensures.before;
  plain = c.split_at_mark.ensures.plain;
  begins = c.split_at_mark.ensures.marked;
  last = c.split_at_colon.ensures.after;
}

pub returns-then-not-is_base : goal.returns-then-not-is_base
returns-then-not-is_base c =
    λ _. no_base _ _ _ _ (parts (goal.at.returns-then-not-is_base c).After-is_base)
    (sym c.is_base.ensures ∙ c.if-not-is_base.true)

pub returns-in_err-suffixes : goal.returns-in_err-suffixes
returns-in_err-suffixes c =
    let p = err_from_is_err_and c.from_residual.result c.from_residual.ensures.1 in
    rw (read_as _ _ _ _ (parts (goal.at.returns-in_err-suffixes c).After-is_base)
    (sym c.is_base.ensures ∙ c.if-not-is_base.false))
    (refused (λ (e : Expression). e) c.from_residual.result c.in_err-suffixes.field-0.0 _ _
    (p.1 ∙ ap Err p.2) c.in_err-suffixes.ensures)

pub returns : goal.returns
returns c =
    read_as _ _ _ _ (parts (goal.at.returns c).After-is_base) (sym c.is_base.ensures
    ∙ c.if-not-is_base.false)
    ∙ went_on _ _ (λ suffixes. and_then (last_read suffixes _) (λ all. Ok
    (with_base _ all))) c.in_ok-suffixes.ensures
    ∙ went_on _ _ (λ all. Ok (with_base _ all)) c.in_ok-suffixes-2.ensures ∙ ap Ok
    (sym c.of.ensures)

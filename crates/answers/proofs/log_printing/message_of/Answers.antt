use Rattle.std.proofs.Common.{◌≡◌, ◌+◌, drop, ap, subst, ◌∙◌, Some, position, ◌==◌, arith}
use Rattle.std.proofs.lemmas.List.{drop_all}
use Rattle.git_model.specs.HeaderReading.{message_of}
use Rattle.answers.proofs.Messages.{past_line, past_empty_line, past_all}
use Rattle.answers.proofs.log_printing.message_of.Goals as goal

pub returns-then-size-eq0 : goal.returns-then-size-eq0
returns-then-size-eq0 c =
    let found = c.in-Some.ensures.first in
    found.1 ∙ ap (λ n. drop (n + 1) c.line.rest.now) c.if-size-eq0.true
    ∙ past_empty_line c.line.rest.now
    (subst (λ n. Some n ≡ position (λ byte. byte == 10) c.line.rest.now) c.if-size-eq0.true found.0)
    ∙ c.line.invariant

pub line-preserved : goal.line-preserved
line-preserved c =
    let found = c.in-Some.ensures.first in
    ap message_of found.1 ∙ past_line c.line.rest.now c.in-Some.size found.0 c.if-size-eq0.false
    ∙ c.line.invariant

pub returns : goal.returns
returns c =
    c.split_at.ensures.back ∙ drop_all _ c.line.rest.now (omega arith)
    ∙ past_all c.line.rest.now c.in_default.ensures.first ∙ c.line.invariant

use Rattle.std.proofs.Common.{ℕ, ap, drop, sym, ◌∙◌}
use Rattle.git_model.specs.IdentReading.{is_spaced_offset}
use Rattle.git_names.proofs.Seconds.{is_date-some, is_date-none}
use Rattle.git_names.proofs.ident_text.is_date.Goals as goal

pub returns-then-is_some : goal.returns-then-is_some
returns-then-is_some c =
    c.is_spaced_offset.ensures
    ∙ ap is_spaced_offset
    (c.split_at.ensures.back ∙ ap (λ (n : ℕ). drop n c.args.text.now) c.digits_len.ensures.len)
    ∙ is_date-some c.args.text.now c.seconds_of.result
    (sym c.is_some.ensures ∙ c.if-is_some.true) c.seconds_of.ensures

pub returns-else-is_some : goal.returns-else-is_some
returns-else-is_some c =
    c.if-is_some.false
    ∙ is_date-none c.args.text.now c.seconds_of.result
    (sym c.is_some.ensures ∙ c.if-is_some.false) c.seconds_of.ensures

use Rattle.std.proofs.Common.{length, sym, ap, ◌∙◌, arith}
use Rattle.std.proofs.lemmas.Bool.{eqb-false}
use Rattle.git_objects.proofs.OctalDigits.{octal_tested, octal_test}
use Rattle.git_objects.proofs.mode.are_mode_digits.Goals as goal

pub returns-then-digits-le-MODE_DIGITS : goal.returns-then-digits-le-MODE_DIGITS
returns-then-digits-le-MODE_DIGITS c = (
  λ yea. octal_tested c.args.digits.now
      (λ e. eqb-false (length c.args.digits.now) 0 (sym c.is_empty.ensures ∙ c.if-is_empty.false) (ap length e))
      (omega (arith, c.if-digits-le-MODE_DIGITS.true)) (sym c.are_octal.ensures ∙ yea),
  λ is. c.are_octal.ensures ∙ octal_test c.args.digits.now is,
)

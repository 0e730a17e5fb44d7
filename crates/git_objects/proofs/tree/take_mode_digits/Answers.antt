use Rattle.std.proofs.Common.{refl, sym, subst}
use Rattle.std.proofs.lemmas.Bool.{iff_false}
use Rattle.git_model.specs.Readable.{AreModeDigits}
use Rattle.git_objects.proofs.Fronts.{refined_missing, refined_wrong, refined_there}
use Rattle.git_objects.proofs.RawFronts.{no_space}
use Rattle.git_objects.proofs.tree.take_mode_digits.Goals as goal

pub returns-in_err-digits : goal.returns-in_err-digits
returns-in_err-digits c =
    rw c.from_residual.ensures (refined_missing (λ d. d) no_space (λ d. refl) c.args.contents.now c.in_err-digits.ensures)

pub returns-then-are_mode_digits : goal.returns-then-are_mode_digits
returns-then-are_mode_digits c =
    refined_there (λ d. d) no_space (λ d. refl) c.args.contents.now
    c.in_ok-digits.digits.now c.in_ok-digits.rest.now c.in_ok-digits.ensures c.in_ok-digits.digits.now
    (c.are_mode_digits.ensures.0 c.if-are_mode_digits.true) refl (λ other is e. e)

pub returns-else-are_mode_digits : goal.returns-else-are_mode_digits
returns-else-are_mode_digits c =
    refined_wrong (λ d. d) no_space (λ d. refl) c.args.contents.now
    c.in_ok-digits.digits.now c.in_ok-digits.rest.now c.in_ok-digits.ensures
    (λ other is e. iff_false c.are_mode_digits.ensures c.if-are_mode_digits.false (subst AreModeDigits (sym e) is))

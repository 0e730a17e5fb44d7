use Rattle.std.proofs.Common.{ℕ, ◌+◌, ◌*◌, get_or, ap, ◌∙◌, arith}
use Rattle.git_objects.proofs.OctalDigits.{octal_range, octal_small, next_digit}
use Rattle.git_objects.proofs.mode.octal_number.Goals as goal

pub overflow_mul-number : goal.overflow_mul-number
overflow_mul-number c =
    let small = octal_small c.args.digits.now c.loop-digit.digit-index c.requires in
    omega (arith, small, c.loop-digit.invariant)

pub overflow_sub-digit : goal.overflow_sub-digit
overflow_sub-digit c =
    let range = octal_range (get_or c.args.digits.now c.loop-digit.digit-index 0) (c.requires.octal c.loop-digit.digit-index 0 c.loop-digit-test.true) in
    omega (arith, range)

pub overflow_add-number : goal.overflow_add-number
overflow_add-number c =
    let small = octal_small c.args.digits.now c.loop-digit.digit-index c.requires in
    let range = octal_range (get_or c.args.digits.now c.loop-digit.digit-index 0) (c.requires.octal c.loop-digit.digit-index 0 c.loop-digit-test.true) in
    omega (arith, small, range, c.from.ensures, c.loop-digit.invariant)

pub loop-digit-preserved : goal.loop-digit-preserved
loop-digit-preserved c =
    ap (λ (d : ℕ). c.loop-digit.number * 8 + d) c.from.ensures
    ∙ next_digit c.args.digits.now c.loop-digit.digit-index c.loop-digit.number c.loop-digit-test.true c.requires c.loop-digit.invariant

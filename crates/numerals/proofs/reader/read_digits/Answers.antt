use Rattle.std.proofs.Common.{arith, ap, sym, ◌+◌, ◌∙◌, ◌≡◌, ◌^◌, ◌≤◌, take, subst}
use Rattle.std.specs.Str.Parse.{AllDigits, digits_value}
use Rattle.std.proofs.lemmas.List.{take_all}
use Rattle.numerals.proofs.Digits.{more, too_large, all_digits}
use Rattle.numerals.proofs.reader.read_digits.Goals as goal

pub returns-in_err-checked_mul : goal.returns-in_err-checked_mul
returns-in_err-checked_mul c =
    let h = more c.args.text.now c.loop-byte.byte-index c.loop-byte.value c.loop-byte-test.true
    c.loop-byte.invariant.0 c.loop-byte.invariant.1
    (sym c.is_ascii_digit.ensures.value ∙ c.if-not-is_ascii_digit.false) in
    c.from_residual.ensures ∙ sym (too_large c.args.text.now (c.loop-byte.byte-index + 1)
    (omega (arith, h.1, c.in_err-checked_mul.ensures)))

pub returns-in_err-value : goal.returns-in_err-value
returns-in_err-value c =
    let h = more c.args.text.now c.loop-byte.byte-index c.loop-byte.value c.loop-byte-test.true
    c.loop-byte.invariant.0 c.loop-byte.invariant.1
    (sym c.is_ascii_digit.ensures.value ∙ c.if-not-is_ascii_digit.false) in
    c.from_residual-in_err-value.ensures ∙ sym (too_large c.args.text.now (c.loop-byte.byte-index + 1)
    (omega (arith, h.1, c.in_ok-checked_mul.ensures, c.in_err-value.ensures)))

pub loop-byte-preserved : goal.loop-byte-preserved
loop-byte-preserved c =
    let h = more c.args.text.now c.loop-byte.byte-index c.loop-byte.value c.loop-byte-test.true
    c.loop-byte.invariant.0 c.loop-byte.invariant.1
    (sym c.is_ascii_digit.ensures.value ∙ c.if-not-is_ascii_digit.false) in
    (h.0, omega (arith, h.1, c.in_ok-checked_mul.ensures, c.in_ok-value.ensures), omega (arith, c.in_ok-value.ensures))

pub returns : goal.returns
returns c =
    let i = c.loop-byte.invariant in
    let whole = take_all c.loop-byte.byte-index c.args.text.now (omega (arith, c.loop-byte-test.false)) in
    all_digits c.args.text.now c.loop-byte.value (subst (AllDigits 10) whole i.0)
    (i.1 ∙ ap (digits_value 10) whole) i.2

use Rattle.std.proofs.Common.{refl}
use Rattle.hex.specs.Hex.{encode_lower}
use Rattle.git_objects.proofs.Fronts.{refined_missing, refined_wrong, refined_there}
use Rattle.git_objects.proofs.Lines.{digits_one_line, same_digits}
use Rattle.git_objects.proofs.header.take_name_line.Goals as goal

pub returns-in_err-digits : goal.returns-in_err-digits
returns-in_err-digits c =
    rw c.from_residual.ensures (refined_missing encode_lower digits_one_line (λ id. refl) c.args.bytes.now c.in_err-digits.ensures)

pub returns-in-Some : goal.returns-in-Some
returns-in-Some c =
    refined_there encode_lower digits_one_line
    (λ id. refl) c.args.bytes.now c.in_ok-digits.digits.now c.in_ok-digits.rest.now c.in_ok-digits.ensures c.in-Some.id c.in-Some.ensures.0 c.in-Some.ensures.1
    (λ other is e. same_digits c.in-Some.id other c.in-Some.ensures.0 is e)

pub returns-in-None : goal.returns-in-None
returns-in-None c =
    refined_wrong encode_lower digits_one_line
    (λ id. refl) c.args.bytes.now c.in_ok-digits.digits.now c.in_ok-digits.rest.now c.in_ok-digits.ensures c.in-None.ensures

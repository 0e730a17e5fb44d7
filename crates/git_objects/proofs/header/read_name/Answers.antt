use Rattle.std.proofs.Common.{◌≡◌, sym, ap, ◌∙◌}
use Rattle.std.proofs.lemmas.Bool.{both_ways}
use Rattle.std.proofs.lemmas.Bool.Decides.{Decides-eqb}
use Rattle.std.proofs.lemmas.Slice.Eq.{slice_eq-Decides}
use Rattle.hex.specs.Hex.{decode_sized, encode_lower}
use Rattle.git_objects.proofs.Lines.{name_decodes, decoded_is_name, decoded_same}
use Rattle.git_objects.proofs.header.read_name.Goals as goal

pub returns-in_err-id : goal.returns-in_err-id
returns-in_err-id c =
    rw c.from_residual.ensures (λ id is e. c.in_err-id.ensures id (ap (λ s. decode_sized s 20) e ∙ name_decodes id is))

pub returns-then-eq : goal.returns-then-eq
returns-then-eq c =
    let same =
    (slice_eq-Decides Decides-eqb c.as_slice.result.now c.args.digits.now c.eq.result c.eq.ensures).0 c.if-eq.true in
    (decoded_is_name c.args.digits.now c.in_ok-id.id c.in_ok-id.ensures, sym same ∙ c.as_slice.ensures ∙ c.to_hex.ensures)

pub returns-else-eq : goal.returns-else-eq
returns-else-eq c = λ id is e.
    let one : c.in_ok-id.id ≡ id =
    decoded_same c.args.digits.now c.in_ok-id.id id c.in_ok-id.ensures
    (ap (λ s. decode_sized s 20) e ∙ name_decodes id is) in
    let shown = c.as_slice.ensures ∙ c.to_hex.ensures ∙ ap encode_lower one ∙ sym e in
    both_ways c.eq.result c.if-eq.false
    ((slice_eq-Decides Decides-eqb c.as_slice.result.now c.args.digits.now c.eq.result c.eq.ensures).1 shown)

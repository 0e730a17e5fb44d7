use Rattle.std.proofs.Common.{refl, sym, subst, List, ℕ}
use Rattle.std.proofs.lemmas.Bool.{iff_false}
use Rattle.git_model.specs.Ident.{IsWrittenIdent}
use Rattle.git_objects.proofs.Fronts.{refined_missing, refined_wrong, refined_there}
use Rattle.git_objects.proofs.Lines.{ident_one_line}
use Rattle.git_objects.proofs.header.take_ident_line.Goals as goal

pub returns-in_err-text : goal.returns-in_err-text
returns-in_err-text c =
    rw c.from_residual.ensures (refined_missing (λ (t : List ℕ). t) ident_one_line (λ t. refl) c.args.bytes.now c.in_err-text.ensures)

pub returns-then-is_written_ident : goal.returns-then-is_written_ident
returns-then-is_written_ident c =
    refined_there (λ (t : List ℕ). t) ident_one_line
    (λ t. refl) c.args.bytes.now c.in_ok-text.text.now c.in_ok-text.rest.now c.in_ok-text.ensures c.in_ok-text.text.now
    (c.is_written_ident.ensures.0 c.if-is_written_ident.true) refl (λ other is e. e)

pub returns-else-is_written_ident : goal.returns-else-is_written_ident
returns-else-is_written_ident c =
    refined_wrong (λ (t : List ℕ). t) ident_one_line
    (λ t. refl) c.args.bytes.now c.in_ok-text.text.now c.in_ok-text.rest.now c.in_ok-text.ensures
    (λ t is e. iff_false c.is_written_ident.ensures c.if-is_written_ident.false (subst IsWrittenIdent (sym e) is))

use Rattle.std.proofs.Common.{ℕ, ◌==◌, ap}
use Rattle.std.proofs.lemmas.Bool.{ne_eqb}
use Rattle.std.proofs.lemmas.Result.{err_from_is_err_and}
use Rattle.gitpool.proofs.RevisionLemmas.{byte_refused, line_ends, line_goes_on}
use Rattle.gitpool.proofs.pack_lines.Revisions.take_byte.Goals as goal

pub returns-then-byte-ne10 : goal.returns-then-byte-ne10
returns-then-byte-ne10 c =
    line_goes_on c.args.byte c.args.line.now.items c.push_byte.new.line.items _ _ (ne_eqb c.args.byte 10 c.if-byte-ne10.true) c.in_ok-push_byte.ensures

pub returns-in_err-take_line : goal.returns-in_err-take_line
returns-in_err-take_line c =
    let p = err_from_is_err_and c.from_residual-in_err-take_line.result c.from_residual-in_err-take_line.ensures.1 in
    rw (p.1, p.2)
    (byte_refused c.args.byte c.args.line.now.items c.deref.result.now c.args.self.now.wants.items c.args.self.now.haves.items
    c.take_line.new.self.wants.items c.take_line.new.self.haves.items _
    c.in_err-take_line.field-0.0 (ap (λ (b : ℕ). b == 10) c.if-byte-ne10.false) c.deref.ensures.value c.in_err-take_line.ensures)

pub returns : goal.returns
returns c =
    line_ends c.args.byte c.args.line.now.items c.clear.new.self.items _ _ _ _ (ap (λ (b : ℕ). b == 10) c.if-byte-ne10.false) c.clear.ensures.items
    (rw c.deref.ensures.value at c.in_ok-take_line.ensures.0) (rw c.deref.ensures.value at c.in_ok-take_line.ensures.1)
    (rw c.deref.ensures.value at c.in_ok-take_line.ensures.2)

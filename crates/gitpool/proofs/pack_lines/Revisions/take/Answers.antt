use Rattle.std.proofs.lemmas.Result.{err_from_is_err_and}
use Rattle.gitpool.proofs.RevisionLemmas.{text_refused, text_taken}
use Rattle.gitpool.proofs.pack_lines.Revisions.take.Goals as goal

pub returns-in_err-take_bytes : goal.returns-in_err-take_bytes
returns-in_err-take_bytes c =
    let p = err_from_is_err_and c.from_residual.result c.from_residual.ensures.1 in
    rw (p.1, p.2)
    (text_refused c.args.text.now c.new-line.result.items c.args.self.now.wants.items c.args.self.now.haves.items
    c.take_bytes.new.self.wants.items c.take_bytes.new.self.haves.items _
    c.in_err-take_bytes.field-0.0 c.new-line.ensures.items c.in_err-take_bytes.ensures)

pub returns : goal.returns
returns c =
    text_taken c.args.text.now c.new-line.result.items c.take_bytes.new.line.items c.deref.result.now c.args.self.now.wants.items c.args.self.now.haves.items
    c.take_bytes.new.self.wants.items c.take_bytes.new.self.haves.items c.take_last.new.self.wants.items c.take_last.new.self.haves.items
    c.take_last.result c.new-line.ensures.items c.deref.ensures.value c.in_ok-take_bytes.ensures c.take_last.ensures

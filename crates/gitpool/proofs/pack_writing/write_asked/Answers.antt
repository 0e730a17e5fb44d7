use Rattle.std.proofs.lemmas.Result.{err_from_is_err_and}
use Rattle.gitpool.proofs.PackLemmas.{lines_answered, lines_refused}
use Rattle.gitpool.proofs.pack_writing.write_asked.Goals as goal

pub returns-in_err-take : goal.returns-in_err-take
returns-in_err-take g c =
    let p = err_from_is_err_and c.from_residual.result c.from_residual.ensures.1 in
    rw (p.1, p.2)
    (lines_refused g.N.Naming.digest_of c.args.tenant.now c.args.all c.args.service.now c.args.text.now c.new-revisions.result.wants.items c.new-revisions.result.haves.items
    c.take.new.self.wants.items c.take.new.self.haves.items _ c.in_err-take.field-0.0 c.in_err-take.ensures)

pub returns : goal.returns
returns g c =
    lines_answered g.N.Naming.digest_of c.args.tenant.now c.args.all c.args.service.now c.args.text.now c.new-revisions.result.wants.items c.new-revisions.result.haves.items
    c.take.new.self.wants.items c.take.new.self.haves.items c.append_wanted_refs.new.out.items c.deref.result.now c.deref-2.result.now _ _ _
    c.new-revisions.ensures.wants c.new-revisions.ensures.haves c.in_ok-take.ensures.0 c.in_ok-take.ensures.1 c.in_ok-take.ensures.2
    c.in_ok-append_wanted_refs.ensures c.deref.ensures.value c.deref-2.ensures.value c.write_pack.ensures

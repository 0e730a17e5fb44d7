use Rattle.std.proofs.Common.{◌∙◌}
use Rattle.git_model.proofs.Readables.{objects_are}
use Rattle.export_text.proofs.export.append_pieces.Goals as goal

pub returns-clause-exports : goal.returns-clause-exports
returns-clause-exports g c = λ good.
    let flags = c.in_ok-reached.ensures.reached (objects_are g.N.Naming.digest_of c.args.objects.now good) in
    c.append_if_few.ensures.exports good (c.deref-2.ensures.value ∙ flags)
    (c.deref-3.ensures.value ∙ c.in_ok-ref_names.ensures c.args.refs.now good (c.deref.ensures.value ∙ flags))

use Rattle.std.proofs.Common.{ap, ◌∙◌}
use Rattle.pool_file_format.specs.declared.raw.RawObject.{RawObject as Read}
use Rattle.pool_file_checks.specs.Own.{content_of}
use Rattle.pool_file_format.specs.Shown.{object_of}
use Rattle.pool_file_checks.proofs.OwnLemmas.{content_within, content_past}
use Rattle.pool_file_checks.proofs.naming.content_at.Goals as goal

pub returns-in-Some : goal.returns-in-Some
returns-in-Some c =
    let l = c.in-Some.ensures.lookup in
    rw (c.kind_of.ensures, c.as_slice.ensures)
    (ap (λ (o : Read). content_of (object_of o)) l.1 ∙ content_within c.args.objects.now c.args.number c.in-Some.object.now l.3.0)

pub returns-in-None : goal.returns-in-None
returns-in-None c = content_past c.args.objects.now c.args.number c.in-None.ensures.lookup.3

use Rattle.missing_objects.proofs.Marking.{none-marked}
use Rattle.missing_objects.proofs.marks.mark_object.Goals as goal

pub returns-in-None-clause-marked : goal.returns-in-None-clause-marked
returns-in-None-clause-marked g c =
    none-marked c.args.with c.args.objects.now c.args.marks.now c.args.id.now c.requires.size c.in-None.ensures

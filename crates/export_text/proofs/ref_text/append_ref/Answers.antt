use Rattle.export_text.proofs.Standing.{valid-named}
use Rattle.export_text.proofs.ref_text.append_ref.Goals as goal

pub returns-in-Some-clause-written : goal.returns-in-Some-clause-written
returns-in-Some-clause-written g c = λ good.
    rw (← c.in-Some.ensures) (c.append_ref_to.ensures.written c.args.objects.now
    (valid-named g.N.Naming.digest_of c.args.objects.now c.args.target.now _ good c.in-Some.ensures))

pub returns-in-None-clause-written : goal.returns-in-None-clause-written
returns-in-None-clause-written g c = λ good. rw (← c.in-None.ensures) c.append_reset.ensures.written

use Rattle.export_text.proofs.Standing.{valid-named}
use Rattle.export_text.proofs.file_text.entries_of.Goals as goal

pub returns-in-Some-clause-entries : goal.returns-in-Some-clause-entries
returns-in-Some-clause-entries g c = λ good.
    rw (← c.in-Some.ensures) (c.entries_in.ensures.entries c.args.objects.now
    (valid-named g.N.Naming.digest_of c.args.objects.now c.args.tree.now _ good c.in-Some.ensures))

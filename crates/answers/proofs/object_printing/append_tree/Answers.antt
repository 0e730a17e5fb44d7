use Rattle.revisions.proofs.HeldContents.{readable_named}
use Rattle.answers.proofs.object_printing.append_tree.Goals as goal

pub returns-in-Some-clause-written : goal.returns-in-Some-clause-written
returns-in-Some-clause-written g c =
    λ held. rw (← c.in-Some.ensures) (c.append_entries_in.ensures.written
    (readable_named g.N.Naming.digest_of c.args.objects.now c.args.tree.now _ held c.in-Some.ensures))

use Rattle.revisions.proofs.HeldContents.{readable_named}
use Rattle.revisions.proofs.peeling.next_to.Goals as goal

pub returns-in-Some : goal.returns-in-Some
returns-in-Some g c =
    λ held. rw (← c.in-Some.ensures) (c.next_from.ensures
    (readable_named g.N.Naming.digest_of c.args.objects.now c.args.id.now _ held c.in-Some.ensures))

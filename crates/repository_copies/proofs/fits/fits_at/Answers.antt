use Rattle.std.proofs.Common.{subst, sym}
use Rattle.std.specs.Prelude.{IfOk, IsTrue, ◌↔◌}
use Rattle.git_model.specs.Repository.{Object}
use Rattle.commit_walk.proofs.CommitsAt.{nothing_told}
use Rattle.export_text.proofs.Standing.{at-told}
use Rattle.export_laws.specs.Copies.{FitsStream}
use Rattle.repository_copies.proofs.fits.fits_at.Goals as goal

pub returns-in-Some : goal.returns-in-Some
returns-in-Some g c good lt =
    let told = at-told g.N.Naming.digest_of c.args.objects.now good c.args.place lt c.in-Some.field-0-0
    c.in-Some.kind c.in-Some.contents.now c.in-Some.ensures in
    subst (λ (o : Object). IfOk c.fits.result (λ fits. IsTrue fits ↔ FitsStream o.content.kind o.content.bytes))
    (sym told.object) (c.fits.ensures c.args.objects.now told.valid)

pub returns-in-None : goal.returns-in-None
returns-in-None g c good lt = absurd (nothing_told c.args.objects.now c.args.place c.in-None.ensures lt)

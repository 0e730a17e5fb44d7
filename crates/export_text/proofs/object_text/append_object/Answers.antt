use Rattle.std.proofs.Common.{◌≡◌, ◌++◌, sym, subst}
use Rattle.std.specs.Prelude.{OnOk}
use Rattle.git_model.specs.Repository.{Object}
use Rattle.commit_walk.proofs.CommitsAt.{nothing_told}
use Rattle.export_text.specs.ItemText.{items_text}
use Rattle.export_text.specs.ExportItems.{items_of_object}
use Rattle.export_text.proofs.Standing.{at-told}
use Rattle.export_text.proofs.object_text.append_object.Goals as goal

pub returns-clause-written : goal.returns-clause-written
returns-clause-written g c = λ good told lt.
    let at = at-told g.N.Naming.digest_of c.args.objects.now good c.args.place lt c.in-Some.found.0 c.in-Some.found.1
    c.in-Some.found.2.now c.in-Some.ensures in
    subst (λ (o : Object). OnOk c.append_content.result (c.append_content.new.out.items
    ≡ c.args.out.now.items ++ items_text (items_of_object c.args.objects.now o))) (sym at.object)
    (c.append_content.ensures.written c.args.place good told at.valid at.connected)

pub returns-in_default-clause-written : goal.returns-in_default-clause-written
returns-in_default-clause-written g c = λ good told lt.
    absurd (nothing_told c.args.objects.now c.args.place c.in_default.ensures lt)

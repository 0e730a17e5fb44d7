use Rattle.std.proofs.Common.{ap, subst, sym}
use Rattle.std.proofs.lemmas.Result.{on_ok_weaker}
use Rattle.git_model.specs.Content.{Content, content_from}
use Rattle.git_model.specs.References.{object_at}
use Rattle.git_model.specs.Repository.{Object}
use Rattle.commit_walk.proofs.CommitsAt.{nothing_told, object_told}
use Rattle.export_laws.specs.Order.{names_by}
use Rattle.repository_copies.specs.Found.{Adds}
use Rattle.repository_copies.proofs.copying.add_object.Goals as goal

pub returns-in-Some : goal.returns-in-Some
returns-in-Some g c good lt are whole =
    let os = c.args.objects.now in
    let told = ap (λ (o : Object). o.content)
    (object_told os c.args.place (record { id = c.in-Some.field-0-0; content = content_from c.in-Some.kind c.in-Some.contents.now }) c.in-Some.ensures) in
    on_ok_weaker c.add_content.result
    (subst (λ (content : Content). Adds os (names_by os (object_at c.args.place os).id content.kind content.bytes)
    c.args.found.now c.add_content.new.found) (sym told))
    (c.add_content.ensures good lt told are whole)

pub returns-in-None : goal.returns-in-None
returns-in-None g c good lt are whole = absurd (nothing_told c.args.objects.now c.args.place c.in-None.ensures lt)

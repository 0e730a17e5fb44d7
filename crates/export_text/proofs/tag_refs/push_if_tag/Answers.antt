use Rattle.std.proofs.Common.{◌≡◌, ◌++◌, [], ◌∷◌, map, sym, subst}
use Rattle.std.specs.List.{filter}
use Rattle.std.specs.Prelude.{OnOk}
use Rattle.git_model.specs.Repository.{Object}
use Rattle.commit_walk.proofs.CommitsAt.{nothing_told}
use Rattle.export_text.specs.Reached.{is_tag, ref_of_tag}
use Rattle.export_text.proofs.Standing.{at-told}
use Rattle.export_text.proofs.tag_refs.push_if_tag.Goals as goal

pub returns-in-Some : goal.returns-in-Some
returns-in-Some g c = λ good lt.
    let told = at-told g.N.Naming.digest_of c.args.objects.now good c.args.place lt c.in-Some.field-0-0 c.in-Some.kind
    c.in-Some.contents.now c.in-Some.ensures in
    subst (λ (o : Object). OnOk c.push_in.result (c.push_in.new.names.items
    ≡ c.args.names.now.items ++ map ref_of_tag (filter is_tag (o ∷ [])))) (sym told.object)
    (c.push_in.ensures c.args.objects.now c.in-Some.field-0-0 told.valid)

pub returns-in-None : goal.returns-in-None
returns-in-None g c = λ good lt. absurd (nothing_told c.args.objects.now c.args.place c.in-None.ensures lt)

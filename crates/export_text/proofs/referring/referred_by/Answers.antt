use Rattle.std.proofs.Common.{sym, ◌∙◌}
use Rattle.std.proofs.lemmas.Result.{IfOk-weaker}
use Rattle.export_text.proofs.Standing.{at-held}
use Rattle.export_text.proofs.referring.referred_by.Goals as goal

pub returns-in-Some : goal.returns-in-Some
returns-in-Some g c = λ held.
    let told = at-held g.N.Naming.digest_of c.args.objects.now held c.args.place c.requires c.in-Some.field-0-0
    c.in-Some.kind c.in-Some.contents.now c.in-Some.ensures in
    IfOk-weaker c.names_in.result _ _ (λ ids is. is ∙ sym told.referred) (c.names_in.ensures told.readable)

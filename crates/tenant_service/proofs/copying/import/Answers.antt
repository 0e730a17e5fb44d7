use Rattle.std.proofs.Common.{refl, ◌∙◌}
use Rattle.tenant_service.specs.Copying.{IsFedAndEnded}
use Rattle.tenant_service.proofs.CopyLemmas.{unchanged, taken-one, taken-two, taken-first, ends-there, goes-on}
use Rattle.tenant_service.proofs.copying.import.Goals as goal

pub returns-in_default-clause-taken : goal.returns-in_default-clause-taken
returns-in_default-clause-taken g c =
    taken-one g.N.Naming.digest_of c.args.service.now c.step.new.self _ _ c.step.ensures.own
    ((refl, refl), ends-there c.step.result c.step.result _ refl c.in_default.not-Ok)

pub returns-clause-taken : goal.returns-clause-taken
returns-clause-taken g c =
    taken-first g.N.Naming.digest_of c.args.service.now c.step.new.self c.step-ended.new.self _ _
    (λ run. IsFedAndEnded c.args.to.now c.args.text.now run c.first_refusal.result) c.step.ensures.own
    (λ run h. ((refl, refl), goes-on c.step.result run _ _ c.in-Ok.is h))
    (taken-two g.N.Naming.digest_of c.step.new.self c.step-fed.new.self c.step-ended.new.self _ _ _ c.step-fed.ensures.own c.step-ended.ensures.own
    ((refl, refl), (refl, refl), c.first_refusal.ensures))

pub returns-in_default-clause-others : goal.returns-in_default-clause-others
returns-in_default-clause-others g c = λ tenant apart.
    c.step.ensures.kept tenant (unchanged tenant c.args.to.now _ refl apart (λ e. cc e))

pub returns-clause-others : goal.returns-clause-others
returns-clause-others g c = λ tenant apart.
    c.step-ended.ensures.kept tenant (unchanged tenant c.args.to.now _ refl apart (λ e. cc e))
    ∙ c.step-fed.ensures.kept tenant (unchanged tenant c.args.to.now _ refl apart (λ e. cc e))
    ∙ c.step.ensures.kept tenant (unchanged tenant c.args.to.now _ refl apart (λ e. cc e))

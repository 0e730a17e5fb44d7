use Rattle.std.proofs.Common.{List, ℕ, drop, length, refl, sym, ap, subst, ◌∙◌}
use Rattle.tenant_service.specs.Copying.{IsImport}
use Rattle.tenant_service.proofs.KeptLemmas.{ask-stays}
use Rattle.tenant_service.proofs.CopyLemmas.{taken-one, taken-first, ends-there, goes-on}
use Rattle.tenant_service.proofs.copying.copy_by_steps.Goals as goal

pub returns-in-Ok-clause-taken : goal.returns-in-Ok-clause-taken
returns-in-Ok-clause-taken g c =
    taken-first g.N.Naming.digest_of c.args.service.now c.step.new.self c.import.new.service _ _
    (λ run. IsImport c.args.to.now c.deref.result.now run c.import.result) c.step.ensures.own
    (λ run h. (
      (refl, refl),
      goes-on c.step.result run _ _ c.in-Ok.is
          (subst (λ (text : List ℕ). IsImport c.args.to.now text run c.import.result)
          (c.deref.ensures.value ∙ sym (ap (λ (none : List ℕ). drop (length none) c.step.new.out.items) c.new-text.ensures.items)) h),
    )) c.import.ensures.taken

pub returns-clause-taken : goal.returns-clause-taken
returns-clause-taken g c =
    taken-one g.N.Naming.digest_of c.args.service.now c.step.new.self _ _ c.step.ensures.own
    ((refl, refl), ends-there c.step.result c.step.result _ refl c.in_default.not-Ok)

pub returns-in-Ok-clause-others : goal.returns-in-Ok-clause-others
returns-in-Ok-clause-others g c = λ tenant apart.
    c.import.ensures.others tenant apart ∙ c.step.ensures.kept tenant (ask-stays tenant _ refl)

pub returns-clause-others : goal.returns-clause-others
returns-clause-others g c = λ tenant apart. c.step.ensures.kept tenant (ask-stays tenant _ refl)

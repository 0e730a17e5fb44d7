use Rattle.std.proofs.Common.{refl, ◌∙◌}
use Rattle.uses.proofs.Apart.{unchanged}
use Rattle.uses.proofs.importing.import.Goals as goal

pub returns-then-ne : goal.returns-then-ne
returns-then-ne g c = record {
  others = λ other apart.
      c.step-opened.ensures.kept other (unchanged other c.args.tenant.now _ refl (λ e. cc e) apart);
}

pub returns-then-eq : goal.returns-then-eq
returns-then-eq g c = record {
  others = λ other apart.
      c.step-ended.ensures.kept other (unchanged other c.args.tenant.now _ refl (λ e. cc e) apart)
      ∙ c.step-fed.ensures.kept other (unchanged other c.args.tenant.now _ refl (λ e. cc e) apart)
      ∙ c.step-opened.ensures.kept other (unchanged other c.args.tenant.now _ refl (λ e. cc e) apart);
}

pub returns-else-eq : goal.returns-else-eq
returns-else-eq g c = record {
  others = λ other apart.
      c.step-ended.ensures.kept other (unchanged other c.args.tenant.now _ refl (λ e. cc e) apart)
      ∙ c.step-fed.ensures.kept other (unchanged other c.args.tenant.now _ refl (λ e. cc e) apart)
      ∙ c.step-opened.ensures.kept other (unchanged other c.args.tenant.now _ refl (λ e. cc e) apart);
}

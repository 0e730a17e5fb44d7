use Rattle.std.proofs.Common.{◌≡◌, ◌∷◌, [], subst}
use Rattle.tenant_service.specs.Headline.{IsIsolated, response_in}
use Rattle.tenant_service.specs.Kept.{KeepsOpened}
use Rattle.tenant_service.specs.TenantState.{TenantStates, held_of}
use Rattle.tenant_service.specs.Tenants.{holdings}
use Rattle.tenant_service.proofs.KeptLemmas.{step-keeps, step-stays}
use Rattle.tenant_service.proofs.RunLemmas.{own-step, stepped, led-on}
use Rattle.tenant_service.proofs.SoundLemmas.{sound-on}
use Rattle.tenant_service.proofs.service.Service.step.Goals as goal

pub returns-clause-own : goal.returns-clause-own
returns-clause-own g c = λ tenant.
    subst (λ (before : TenantStates). IsIsolated g.N.Naming.digest_of tenant (held_of tenant before)
    ((c.args.step, response_in c.take_step.result c.args.out.now.items c.take_step.new.out.items) ∷ [])
    (held_of tenant (holdings c.take_step.new.pool c.take_step.new.tenants.entries)))
    c.self.view_is
    (own-step g.N.Naming.digest_of c.args.step c.self.inside.pool c.take_step.new.pool c.self.inside.tenants.entries c.take_step.new.tenants.entries
    c.take_step.result c.args.out.now.items c.take_step.new.out.items c.take_step.ensures tenant)

pub returns-clause-kept : goal.returns-clause-kept
returns-clause-kept g c = λ tenant still.
    subst (λ (before : TenantStates). held_of tenant
    (holdings c.take_step.new.pool c.take_step.new.tenants.entries) ≡ held_of tenant before)
    c.self.view_is
    (step-stays g.N.Naming.digest_of c.self.inside.pool c.take_step.new.pool
    c.self.inside.tenants.entries c.take_step.new.tenants.entries c.take_step.result
    c.args.out.now.items c.take_step.new.out.items tenant c.args.step still c.take_step.ensures)

pub returns-clause-opened : goal.returns-clause-opened
returns-clause-opened g c = λ tenant.
    subst (λ (before : TenantStates). KeepsOpened (held_of tenant before)
    (held_of tenant (holdings c.take_step.new.pool c.take_step.new.tenants.entries)))
    c.self.view_is
    (step-keeps g.N.Naming.digest_of c.self.inside.pool c.take_step.new.pool
    c.self.inside.tenants.entries c.take_step.new.tenants.entries c.take_step.result
    c.args.out.now.items c.take_step.new.out.items tenant c.args.step c.take_step.ensures)

pub invariant_of-self : goal.invariant_of-self
invariant_of-self g c = record {
  accounts = stepped g.N.Naming.digest_of c.args.step c.self.inside.pool c.self.inside.tenants.entries c.take_step.result c.args.out.now.items
      c.take_step.new.out.items c.take_step.new.pool c.take_step.new.tenants.entries c.take_step.ensures;
  led = led-on g.N.Naming.digest_of (holdings c.self.inside.pool c.self.inside.tenants.entries)
      (holdings c.take_step.new.pool c.take_step.new.tenants.entries) _
      (λ tenant. own-step g.N.Naming.digest_of c.args.step c.self.inside.pool c.take_step.new.pool c.self.inside.tenants.entries c.take_step.new.tenants.entries
      c.take_step.result c.args.out.now.items c.take_step.new.out.items c.take_step.ensures tenant) c.self.invariant.led;
  sound = sound-on g.N.Naming.digest_of g.met.N.Naming.answers_names c.args.step c.self.inside.pool c.self.inside.tenants.entries c.take_step.result c.args.out.now.items
      c.take_step.new.out.items c.take_step.new.pool c.take_step.new.tenants.entries c.take_step.ensures c.self.invariant.sound;
}

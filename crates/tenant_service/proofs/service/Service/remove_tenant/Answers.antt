use Rattle.std.proofs.Common.{◌≡◌, None, sym, ap, subst, ◌∙◌}
use Rattle.std.specs.Prelude.{IsSome}
use Rattle.tenant_service.specs.TenantState.{TenantStates, held_of}
use Rattle.tenant_service.specs.Removing.{all_but, answer_unless, removal_refusal}
use Rattle.tenant_service.specs.Tenants.{holdings}
use Rattle.tenant_service.proofs.RemovalLemmas.{held-gone, removed-led, removed-others, removed-sound}
use Rattle.tenant_service.proofs.service.Service.remove_tenant.Goals as goal

pub invariant_of-self : goal.invariant_of-self
invariant_of-self g c =
    let D = g.N.Naming.digest_of in
    let before = holdings c.self.inside.pool c.self.inside.tenants.entries in
    let after = holdings c.remove.new.pool c.remove.new.tenants.entries in
    let name = c.args.tenant.now in
    let r = c.remove.ensures in
    record {
      accounts = r.accounts;
      led = removed-led D name before after r.removed r.refused c.self.invariant.led;
      sound = removed-sound D name before after r.removed r.refused c.self.invariant.sound;
    }

pub returns-clause-answer : goal.returns-clause-answer
returns-clause-answer g c =
    c.remove.ensures.answered
    ∙ ap (λ (all : TenantStates). answer_unless (removal_refusal c.args.tenant.now all)) c.self.view_is

pub returns-clause-removed : goal.returns-clause-removed
returns-clause-removed g c = λ none.
    c.remove.ensures.removed
    (ap (removal_refusal c.args.tenant.now) c.self.view_is ∙ none)
    ∙ ap (all_but c.args.tenant.now) c.self.view_is

pub returns-clause-own : goal.returns-clause-own
returns-clause-own g c = λ none.
    ap (held_of c.args.tenant.now)
    (c.remove.ensures.removed (ap (removal_refusal c.args.tenant.now) c.self.view_is ∙ none))
    ∙ held-gone c.args.tenant.now (holdings c.self.inside.pool c.self.inside.tenants.entries)

pub returns-clause-others : goal.returns-clause-others
returns-clause-others g c = λ other apart.
    removed-others c.args.tenant.now (holdings c.self.inside.pool c.self.inside.tenants.entries)
    (holdings c.remove.new.pool c.remove.new.tenants.entries) c.remove.ensures.removed
    c.remove.ensures.refused other apart
    ∙ ap (held_of other) c.self.view_is

pub returns-clause-refused : goal.returns-clause-refused
returns-clause-refused g c = λ some.
    c.remove.ensures.refused
    (subst (λ (all : TenantStates). IsSome (removal_refusal c.args.tenant.now all))
    (sym c.self.view_is) some) ∙ c.self.view_is

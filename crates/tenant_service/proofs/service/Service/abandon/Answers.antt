use Rattle.std.proofs.Common.{sym, ap, subst, ◌∙◌}
use Rattle.std.specs.Prelude.{IsSome}
use Rattle.tenant_service.specs.TenantState.{TenantStates, Idle, held_of}
use Rattle.tenant_service.specs.HeldObjects.{last_held}
use Rattle.tenant_service.specs.Removing.{abandon_refusal, answer_unless}
use Rattle.tenant_service.specs.Tenants.{holdings}
use Rattle.tenant_service.proofs.SoundLemmas.{last-sound}
use Rattle.tenant_service.proofs.RemovalLemmas.{led-left, sound-left}
use Rattle.tenant_service.proofs.service.Service.abandon.Goals as goal

pub invariant_of-self : goal.invariant_of-self
invariant_of-self g c =
    let D = g.N.Naming.digest_of in
    let before = holdings c.self.inside.pool c.self.inside.tenants.entries in
    let after = holdings c.abandon_stream.new.pool c.abandon_stream.new.tenants.entries in
    let name = c.args.tenant.now in
    let a = c.abandon_stream.ensures in
    record {
      accounts = a.accounts;
      led = led-left D name before after a.others (last_held (held_of name before)) a.own
          c.self.invariant.led;
      sound = sound-left D name before after a.others (last_held (held_of name before)) a.own
          (last-sound D (held_of name before) (c.self.invariant.sound name)) c.self.invariant.sound;
    }

pub returns-clause-answer : goal.returns-clause-answer
returns-clause-answer g c =
    c.abandon_stream.ensures.answered
    ∙ ap (λ (all : TenantStates). answer_unless (abandon_refusal c.args.tenant.now all)) c.self.view_is

pub returns-clause-own : goal.returns-clause-own
returns-clause-own g c =
    c.abandon_stream.ensures.own
    ∙ ap (λ (all : TenantStates). Idle (last_held (held_of c.args.tenant.now all))) c.self.view_is

pub returns-clause-others : goal.returns-clause-others
returns-clause-others g c = λ other apart.
    c.abandon_stream.ensures.others other apart ∙ ap (held_of other) c.self.view_is

pub returns-clause-refused : goal.returns-clause-refused
returns-clause-refused g c = λ some.
    c.abandon_stream.ensures.refused
    (subst (λ (all : TenantStates). IsSome (abandon_refusal c.args.tenant.now all))
    (sym c.self.view_is) some) ∙ c.self.view_is

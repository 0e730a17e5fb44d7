use Rattle.std.proofs.Common.{sym, subst}
use Rattle.tenant_service.specs.Alone.{Ask}
use Rattle.tenant_service.specs.Headline.{stop_told}
use Rattle.tenant_service.specs.TenantState.{TenantState}
use Rattle.tenant_service.specs.HeldSteps.{step_held}
use Rattle.tenant_service.specs.OneStep.{Takes}
use Rattle.tenant_service.specs.Tenants.{holding_in}
use Rattle.tenant_service.proofs.AccountLemmas.{stands-found, held-missing, serves-found}
use Rattle.tenant_service.proofs.AccountLemmas.{serves-same, leaves-same, calls-good}
use Rattle.tenant_service.proofs.SoundLemmas.{sound-found}
use Rattle.tenant_service.proofs.tenants.answer_query.Goals as goal

pub ask-requires : goal.ask-requires
ask-requires g c = record {
  stands = stands-found g.N.Naming.digest_of c.args.pool.now c.in-Ok.name c.args.tenants.now.entries
      c.in-Some.tenant.now c.requires.accounts (sym c.in-Some.ensures.value);
  sound = sound-found g.N.Naming.digest_of c.args.pool.now c.in-Ok.name c.args.tenants.now.entries
      c.in-Some.tenant.now c.requires.sound (sym c.in-Some.ensures.value);
}

pub returns-in-Some : goal.returns-in-Some
returns-in-Some g c =
    rw (c.get_mut.follows.holds c.ask.new.tenant).0
    (calls-good g.N.Naming.digest_of c.args.tenant.now c.in-Ok.name _ _ _ _ _ _ c.in-Ok.ensures.0
    c.in-Ok.ensures.1
    (serves-found g.N.Naming.digest_of c.in-Ok.name (Ask c.args.query.now) c.args.pool.now
    c.args.pool.now c.args.tenants.now.entries c.in-Some.tenant.now c.ask.new.tenant c.ask.result
    c.args.out.now.items c.ask.new.out.items c.requires.accounts (sym c.in-Some.ensures.value)
    c.ask.ensures.stands
    (leaves-same c.args.pool.now c.in-Some.tenant.now.table c.ask.new.tenant.table
    c.ask.ensures.table)
    (subst (λ (held : TenantState). Takes (step_held g.N.Naming.digest_of (Ask c.args.query.now)
    (stop_told c.ask.result) (holding_in c.args.pool.now c.in-Some.tenant.now)) c.ask.result
    c.args.out.now.items c.ask.new.out.items held) (sym c.ask.ensures.held) c.ask.ensures.own)))

pub returns-in-None : goal.returns-in-None
returns-in-None g c =
    rw c.get_mut.follows.holds-at-none
    (calls-good g.N.Naming.digest_of c.args.tenant.now c.in-Ok.name _ _ _ _ _ _ c.in-Ok.ensures.0
    c.in-Ok.ensures.1
    (serves-same g.N.Naming.digest_of c.in-Ok.name (Ask c.args.query.now) c.args.pool.now
    c.args.tenants.now.entries _ c.ask_nobody.result c.args.out.now.items
    c.ask_nobody.new.out.items c.requires.accounts
    (held-missing c.args.pool.now c.in-Ok.name c.args.tenants.now.entries
    (sym c.in-None.ensures.value)) c.ask_nobody.ensures))

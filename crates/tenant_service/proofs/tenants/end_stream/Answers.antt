use Rattle.std.proofs.Common.{refl, sym, ap, []}
use Rattle.service_steps.specs.declared.answer.Answer.{Answer}
use Rattle.tenant_service.specs.Alone.{End, step_result}
use Rattle.tenant_service.specs.TenantState.{Idle, empty_repository}
use Rattle.tenant_service.proofs.AccountLemmas.{stands-found, serves-found, serves-missing}
use Rattle.tenant_service.proofs.AccountLemmas.{calls-good}
use Rattle.tenant_service.proofs.SoundLemmas.{sound-found}
use Rattle.tenant_service.proofs.tenants.end_stream.Goals as goal

pub end-requires : goal.end-requires
end-requires g c = record {
  stands = stands-found g.N.Naming.digest_of c.args.pool.now c.in-Ok.name c.args.tenants.now.entries
      c.in-Some.tenant.now c.requires.accounts (sym c.in-Some.ensures.value);
  room = c.has_room.ensures;
  sound = sound-found g.N.Naming.digest_of c.args.pool.now c.in-Ok.name c.args.tenants.now.entries
      c.in-Some.tenant.now c.requires.sound (sym c.in-Some.ensures.value);
}

pub returns-in-Some : goal.returns-in-Some
returns-in-Some g c =
    rw (c.get_mut.follows.holds c.end.new.tenant).0
    (calls-good g.N.Naming.digest_of c.args.tenant.now c.in-Ok.name _ _ _ _ _ _ c.in-Ok.ensures.0
    c.in-Ok.ensures.1
    (serves-found g.N.Naming.digest_of c.in-Ok.name End c.args.pool.now c.end.new.pool
    c.args.tenants.now.entries c.in-Some.tenant.now c.end.new.tenant c.end.result
    c.args.out.now.items c.end.new.out.items c.requires.accounts (sym c.in-Some.ensures.value)
    c.end.ensures.stands c.end.ensures.others c.end.ensures.own))

pub returns-in-None : goal.returns-in-None
returns-in-None g c =
    calls-good g.N.Naming.digest_of c.args.tenant.now c.in-Ok.name _ _ _ _ _ _ c.in-Ok.ensures.0
    c.in-Ok.ensures.1
    (serves-missing g.N.Naming.digest_of c.in-Ok.name End c.args.pool.now c.args.tenants.now.entries
    _ _ c.args.out.now.items c.requires.accounts (sym c.in-None.ensures.value)
    (rw c.get_mut.follows.holds-at-none refl)
    (ap (λ (a : Answer). step_result a [] (Idle empty_repository)) (sym c.answer-in-None.ensures)))

use Rattle.std.proofs.Common.{refl, sym, ap, ◌∙◌}
use Rattle.service_steps.specs.declared.answer.Answer.TheVariants as answer
use Rattle.service_steps.specs.declared.fault.ServiceFault.{ServiceFault}
use Rattle.service_steps.specs.Faults.{code_of}
use Rattle.tenant_service.proofs.AccountLemmas.{stands-found}
use Rattle.tenant_service.proofs.RemovalLemmas.{abandons-found, abandons-missing, abandons-bad}
use Rattle.tenant_service.proofs.removing.abandon_stream.Goals as goal

pub abandon-requires : goal.abandon-requires
abandon-requires g c = record {
  stands = stands-found g.N.Naming.digest_of c.args.pool.now c.in-Ok.name c.args.tenants.now.entries
      c.in-Some.tenant.now c.requires (sym c.in-Some.ensures.value);
}

pub returns-in-Some : goal.returns-in-Some
returns-in-Some g c =
    rw (c.get_mut.follows.holds c.abandon.new.tenant).0
    (abandons-found g.N.Naming.digest_of c.args.tenant.now c.in-Ok.name c.args.pool.now
    c.abandon.new.pool c.args.tenants.now.entries c.in-Some.tenant.now c.abandon.new.tenant
    c.abandon.result c.in-Ok.ensures.0 c.in-Ok.ensures.1 c.requires (sym c.in-Some.ensures.value)
    c.abandon.ensures.stands c.abandon.ensures.others c.abandon.ensures.answer
    c.abandon.ensures.own)

pub returns-in-None : goal.returns-in-None
returns-in-None g c =
    abandons-missing g.N.Naming.digest_of c.args.tenant.now c.in-Ok.name c.args.pool.now
    c.args.tenants.now.entries _ _ c.in-Ok.ensures.0 c.in-Ok.ensures.1 c.requires
    (sym c.in-None.ensures.value) (rw c.get_mut.follows.holds-at-none refl)
    c.answer-in-None.ensures

pub returns-in-Err : goal.returns-in-Err
returns-in-Err g c =
    abandons-bad g.N.Naming.digest_of c.args.tenant.now c.args.pool.now c.args.tenants.now.entries
    c.answer.result c.in-Err.ensures.0 c.requires
    (c.answer.ensures
    ∙ ap (λ (reason : ServiceFault). answer.Fault (code_of reason)) c.in-Err.ensures.1)

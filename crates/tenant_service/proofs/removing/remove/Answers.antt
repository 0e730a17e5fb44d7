use Rattle.std.proofs.Common.{sym, ap, ◌∙◌}
use Rattle.service_steps.specs.declared.answer.Answer.TheVariants as answer
use Rattle.service_steps.specs.declared.fault.ServiceFault.{ServiceFault}
use Rattle.service_steps.specs.Faults.{code_of}
use Rattle.tenant_service.proofs.AccountLemmas.{stands-found}
use Rattle.tenant_service.proofs.RemovalLemmas.{gone, gone-missing, removes-gone, removes-streaming, removes-bad}
use Rattle.tenant_service.proofs.removing.remove.Goals as goal

pub release-requires : goal.release-requires
release-requires g c =
    (stands-found g.N.Naming.digest_of c.args.pool.now c.in-Ok.name c.args.tenants.now.entries
    c.in-Some.removed c.requires (sym c.shift_remove.ensures.value ∙ c.in-Some.is)).entries

pub returns-in-Err : goal.returns-in-Err
returns-in-Err g c =
    removes-bad g.N.Naming.digest_of c.args.tenant.now c.args.pool.now c.args.tenants.now.entries
    c.answer.result c.in-Err.ensures.0 c.requires
    (c.answer.ensures
    ∙ ap (λ (reason : ServiceFault). answer.Fault (code_of reason)) c.in-Err.ensures.1)

pub returns-in-Some : goal.returns-in-Some
returns-in-Some g c =
    removes-gone g.N.Naming.digest_of c.args.tenant.now c.in-Ok.name c.args.pool.now
    c.release.new.pool c.args.tenants.now.entries c.shift_remove.new.self.entries
    c.in-Ok.ensures.0 c.in-Ok.ensures.1
    (sym (c.is_streaming.ensures c.args.pool.now) ∙ c.if-is_streaming.false)
    (gone g.N.Naming.digest_of c.in-Ok.name c.args.pool.now c.release.new.pool
    c.args.tenants.now.entries c.shift_remove.new.self.entries c.in-Some.removed c.requires
    (sym c.shift_remove.ensures.value ∙ c.in-Some.is) c.shift_remove.ensures.entries
    c.shift_remove.ensures.updates.1 c.release.ensures)

pub returns-in_default : goal.returns-in_default
returns-in_default g c =
    removes-gone g.N.Naming.digest_of c.args.tenant.now c.in-Ok.name c.args.pool.now
    c.args.pool.now c.args.tenants.now.entries c.shift_remove.new.self.entries
    c.in-Ok.ensures.0 c.in-Ok.ensures.1
    (sym (c.is_streaming.ensures c.args.pool.now) ∙ c.if-is_streaming.false)
    (gone-missing g.N.Naming.digest_of c.in-Ok.name c.args.pool.now c.args.tenants.now.entries
    c.shift_remove.new.self.entries c.requires c.in_default.ensures.unchanged
    (sym c.shift_remove.ensures.value ∙ c.in_default.is))

use Rattle.std.proofs.Common.{◌≡◌, None, Some, Option, sym, ap, ◌∙◌, subst}
use Rattle.tenant_service.specs.Copying.{copy_refusal}
use Rattle.tenant_service.specs.Tenants.{AreLed, AreSound}
use Rattle.tenant_service.proofs.CopyLemmas.{taken-none}
use Rattle.tenant_service.proofs.ExportRunLemmas.{copied, may-take}
use Rattle.tenant_service.proofs.StoredCopies.{stored-by}
use Rattle.service_steps.specs.declared.fault.ServiceFault.{ServiceFault}
use Rattle.tenant_service.proofs.service.Service.copy_tenant.Goals as goal

pub returns-in-Some-clause-copied : goal.returns-in-Some-clause-copied
returns-in-Some-clause-copied g c =
    taken-none g.N.Naming.digest_of c.args.self.now c.in-Some.refusal c.args.from.now c.args.to.now
    (copy_refusal c.args.from.now c.args.to.now c.args.self.now) c.answer.result
    (ap (copy_refusal c.args.from.now c.args.to.now) (sym c.self.view_is) ∙ sym (c.copy_refusal.ensures c.self.inside.pool) ∙ c.in-Some.is) c.answer.ensures

pub returns-in-Some-clause-copies : goal.returns-in-Some-clause-copies
returns-in-Some-clause-copies g c = λ none can.
    let refused : copy_refusal c.args.from.now c.args.to.now c.args.self.now ≡ Some c.in-Some.refusal =
    ap (copy_refusal c.args.from.now c.args.to.now) (sym c.self.view_is) ∙ sym (c.copy_refusal.ensures c.self.inside.pool) ∙ c.in-Some.is in
    let both : ◌≡◌ {A = Option ServiceFault} None (Some c.in-Some.refusal) = sym none ∙ refused in cc both

pub returns-in-None-clause-copies : goal.returns-in-None-clause-copies
returns-in-None-clause-copies g c = λ none can.
    copied g.N.Naming.digest_of g.met.N.Naming.answers_names c.args.self.now c.copy-answer.new.service c.args.from.now c.args.to.now c.copy-answer.result
    (subst (AreLed g.N.Naming.digest_of) c.self.view_is c.self.invariant.led)
    (subst (AreSound g.N.Naming.digest_of) c.self.view_is c.self.invariant.sound) c.copy-answer.ensures.taken none can

pub returns-in-None-clause-stored : goal.returns-in-None-clause-stored
returns-in-None-clause-stored g c = λ none can.
    let led = subst (AreLed g.N.Naming.digest_of) c.self.view_is c.self.invariant.led in
    let may = may-take c.args.from.now c.args.to.now c.args.self.now none in
    stored-by c.copy-answer.result c.args.self.now c.copy-answer.new.service c.args.from.now c.args.to.now
    c.has_distinct_names.ensures c.has_distinct_names-in-None.ensures
    c.copy-answer.ensures.others
    may.nothing
    (copied g.N.Naming.digest_of g.met.N.Naming.answers_names c.args.self.now c.copy-answer.new.service c.args.from.now c.args.to.now c.copy-answer.result
    led (subst (AreSound g.N.Naming.digest_of) c.self.view_is c.self.invariant.sound) c.copy-answer.ensures.taken none can)

pub returns-in-Some-clause-stored : goal.returns-in-Some-clause-stored
returns-in-Some-clause-stored g c = λ none can.
    let refused : copy_refusal c.args.from.now c.args.to.now c.args.self.now ≡ Some c.in-Some.refusal =
    ap (copy_refusal c.args.from.now c.args.to.now) (sym c.self.view_is) ∙ sym (c.copy_refusal.ensures c.self.inside.pool) ∙ c.in-Some.is in
    let both : ◌≡◌ {A = Option ServiceFault} None (Some c.in-Some.refusal) = sym none ∙ refused in cc both

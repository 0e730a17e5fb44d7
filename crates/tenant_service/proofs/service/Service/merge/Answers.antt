use Rattle.std.proofs.Common.{sym, subst}
use Rattle.service_steps.specs.declared.answer.Answer.{Answer}
use Rattle.tenant_service.specs.Merging.{Merges, merge_refusal}
use Rattle.tenant_service.specs.TenantState.{TenantStates}
use Rattle.tenant_service.specs.Tenants.{holdings}
use Rattle.tenant_service.proofs.MergeLemmas.{merge-led, merge-sound, merge-stopped}
use Rattle.tenant_service.proofs.service.Service.merge.Goals as goal
use Rattle.tenant_service.proofs.service.Service.merge.Goals.{in-Ok, in-Err}

pub invariant_of-self : goal.invariant_of-self
invariant_of-self g c =
    let D = g.N.Naming.digest_of in
    let there = holdings c.other.inside.pool c.other.inside.tenants.entries in
    let before = holdings c.self.inside.pool c.self.inside.tenants.entries in
    let after = holdings c.merge_tenants.new.pool c.merge_tenants.new.tenants.entries in
    let o = merge_refusal there before in
    let told = c.match-merge_tenants.result in
    let made : Merges o there before told after = elim c.match-merge_tenants.branch [
      | in-Ok w ↦ subst (λ (a : Answer). Merges o there before a after) (sym w.result-is) w.in-Ok.ensures.ok
      | in-Err w ↦
          subst (λ (a : Answer). Merges o there before a after) (sym w.result-is)
          (merge-stopped o there before after w.in-Err.ensures.err)
    ] in record {
      accounts = c.merge_tenants.ensures.accounts;
      led = merge-led there before D o told after made c.self.invariant.led;
      sound = merge-sound there before D o told after made c.other.invariant.sound c.self.invariant.sound;
    }

pub returns : goal.returns
returns g c =
    let there = holdings c.other.inside.pool c.other.inside.tenants.entries in
    let before = holdings c.self.inside.pool c.self.inside.tenants.entries in
    let after = holdings c.merge_tenants.new.pool c.merge_tenants.new.tenants.entries in
    let o = merge_refusal there before in
    let told = c.match-merge_tenants.result in
    let made : Merges o there before told after = elim c.match-merge_tenants.branch [
      | in-Ok w ↦ subst (λ (a : Answer). Merges o there before a after) (sym w.result-is) w.in-Ok.ensures.ok
      | in-Err w ↦
          subst (λ (a : Answer). Merges o there before a after) (sym w.result-is)
          (merge-stopped o there before after w.in-Err.ensures.err)
    ] in
    subst (λ (all : TenantStates). Merges (merge_refusal all c.args.self.now) all c.args.self.now told after)
    c.other.view_is
    (subst (λ (all : TenantStates). Merges (merge_refusal there all) there all told after) c.self.view_is made)

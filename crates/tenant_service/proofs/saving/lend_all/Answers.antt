use Rattle.std.proofs.Common.{ℕ, List, ap, sym}
use Rattle.tenant_service.specs.declared.tenant.Tenant.{Tenant}
use Rattle.tenant_service.specs.Entries.{parts_of}
use Rattle.tenant_service.proofs.LentLemmas.{lent-next}
use Rattle.tenant_service.proofs.saving.lend_all.Goals as goal

pub loop-place-preserved : goal.loop-place-preserved
loop-place-preserved c =
    let e : List ℕ × Tenant = (c.unwrap.result.0.now, c.unwrap.result.1.now) in
    lent-next parts_of c.args.tenants.now.entries c.loop-place.lent.items c.push.new.self.items
    c.loop-place.place e _ c.loop-place.invariant
    (sym (rw c.unwrap.ensures at c.get_index.ensures.entry)) c.in_ok-push.ensures.items
    (ap (λ (n : ℕ). record (parts_of e) { objects = n }) c.committed_len-objects.ensures.value)

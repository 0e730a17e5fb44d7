use Rattle.std.specs.Vec.Iter.{into_iter_items, into_iter_len}
use Rattle.tenant_service.specs.Entries.{AreAll}
use Rattle.tenant_service.proofs.loading.take_all_in.Given as goal

abbrev pub invariant-loop-tenant : goal.invariant-loop-tenant
invariant-loop-tenant l =
    AreAll l.tenants.entries (into_iter_items l.rest) l.fn.loaded.items

abbrev pub decreases-loop-tenant : goal.decreases-loop-tenant
decreases-loop-tenant l = into_iter_len l.rest

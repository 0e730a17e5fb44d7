use Rattle.std.specs.Vec.Iter.{into_iter_items}
use Rattle.tenant_service.proofs.LoadedLemmas.{new-name}
use Rattle.tenant_service.proofs.loading.take_all_in.Goals as goal

pub take_in-requires : goal.take_in-requires
take_in-requires c =
    new-name c.loop-tenant.tenants.entries c.in-Some.tenant (into_iter_items c.next.new.self)
    c.args.loaded.items
    (rw c.in-Some.ensures.items at c.loop-tenant.invariant) c.requires.distinct

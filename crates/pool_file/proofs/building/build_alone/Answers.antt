use Rattle.tenant_tables.proofs.TableLemmas.{IsBackedBy-nil}
use Rattle.pool_file.proofs.Starting.{alike_none}
use Rattle.pool_file.proofs.building.build_alone.Goals as goal

pub build_tenant-requires-clause-other : goal.build_tenant-requires-clause-other
build_tenant-requires-clause-other g c =
    rw c.new-none.ensures.entries (IsBackedBy-nil g.N.Naming.digest_of c.args.pool.now)

pub build_tenant-requires-clause-alike : goal.build_tenant-requires-clause-alike
build_tenant-requires-clause-alike g c =
    rw c.new-none.ensures.entries (alike_none _ c.args.slots.now c.args.tenant.now.numbers.items)

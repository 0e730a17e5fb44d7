use Rattle.std.proofs.Common.{take}
use Rattle.pool_file_format.specs.Shown.{tenants_of}
use Rattle.pool_file.specs.Building.{AddsTenants}
use Rattle.pool_file.proofs.building.add_tenants.Given as goal

-- Those before the place of the loop are built.
abbrev pub invariant-loop-tenant : goal.invariant-loop-tenant
invariant-loop-tenant g l = AddsTenants g.N.Naming.digest_of l.slots l.fn.pool l.fn.tenants.items
    (tenants_of (take l.tenant-index l.all)) l.pool l.tenants.items

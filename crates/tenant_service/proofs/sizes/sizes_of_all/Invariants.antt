use Rattle.std.proofs.Common.{◌≡◌, map, take}
use Rattle.pool_file.specs.Worth.{named_in}
use Rattle.tenant_service.specs.Sizes.{sizes_by, sizes_told}
use Rattle.tenant_service.specs.Tenants.{holds_of}
use Rattle.tenant_service.proofs.sizes.sizes_of_all.Given as goal

-- the sizes are those of the tenants before the place
abbrev pub invariant-loop-tenant : goal.invariant-loop-tenant
invariant-loop-tenant g l =
    map sizes_told l.sizes.items
    ≡ map (sizes_by (holds_of l.pool)) (map (named_in l.pool) (take l.tenant-index l.tenants))

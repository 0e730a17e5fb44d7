use Rattle.std.proofs.Common.{◌≡◌, map, take}
use Rattle.pool_file.specs.Worth.{tenant_seen, with_committed}
use Rattle.pool_file.proofs.saving.views_of.Given as goal

-- The views show the tenants before the place of the loop.
abbrev pub invariant-loop-tenant : goal.invariant-loop-tenant
invariant-loop-tenant l =
    map tenant_seen l.views.items ≡ map with_committed (take l.tenant-index l.tenants)

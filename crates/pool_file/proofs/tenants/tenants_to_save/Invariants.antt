use Rattle.std.proofs.Common.{◌≡◌, take}
use Rattle.content_pool.specs.Pool.{Cells}
use Rattle.pool_file.proofs.Chosen.{chosen}
use Rattle.pool_file.proofs.tenants.tenants_to_save.Given as goal

-- The tenants are those before the place of the loop that are worth saving.
abbrev pub invariant-loop-tenant : goal.invariant-loop-tenant
invariant-loop-tenant l = (pool : Cells)
    → l.by_name.keys ≡ chosen pool (take l.tenant-index l.tenants)

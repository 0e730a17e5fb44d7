use Rattle.std.proofs.Common.{◌≡◌, List, map, take}
use Rattle.std.specs.Prelude.{All}
use Rattle.git_model.specs.Content.{Content}
use Rattle.content_pool.specs.Pool.{Cells}
use Rattle.pool_file_format.specs.Shown.{tenants_of}
use Rattle.pool_file_checks.specs.Repositories.{raw_tenant}
use Rattle.pool_file.specs.Slots.{IsNumbered, all_slots}
use Rattle.pool_file.specs.Worth.{named_in}
use Rattle.pool_file.proofs.tenants.raw_tenants.Given as goal

-- The tenants are those before the place of the loop.
abbrev pub invariant-loop-tenant : goal.invariant-loop-tenant
invariant-loop-tenant l = (pool : Cells) (contents : List Content)
    → All (IsNumbered pool contents l.by_slot) (all_slots l.tenants)
    → tenants_of l.raws.items
    ≡ map (raw_tenant contents) (map (named_in pool) (take l.tenant-index l.tenants))

-- How much all tenants have together.
use Rattle.std.specs.Prelude.{◌≡◌, count_by}
use Rattle.content_pool.specs.LiveContents.{stored_sizes}
use Rattle.tenant_service.specs.HeldObjects.{held_contents, has_committed_object}
use Rattle.tenant_service.specs.TenantState.{TenantStates}
use Rattle.gitpool_c.specs.declared.service.Totals.{Totals}

-- These are the numbers of `Service::stored` and of `Service::tenants`.
pub record IsTotal (all : TenantStates) (totals : Totals) : Type 0 where
  pub stored : (totals.contents, totals.bytes) ≡ stored_sizes (held_contents all)
  pub tenants : totals.tenants ≡ count_by (λ e. has_committed_object e.1) all

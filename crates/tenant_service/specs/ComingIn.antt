-- What each step of a merge does to the tenants and the pool: definitions for the contracts of
-- private functions. No public clause cites them.
use Rattle.std.specs.Prelude.{◌≡◌, ℕ, false, if◌then◌else◌, List, [], map}
use Rattle.std.specs.Map.{lookup}
use Rattle.std.specs.Option.{option_map_or}
use Rattle.std.specs.Set.{is_member}
use Rattle.std.specs.Str.{bytes_eq}
use Rattle.content_pool.specs.Pool.{Cells}
use Rattle.git_model.specs.Repository.{Repository}
use Rattle.tenant_tables.specs.IsBackedBy.{PreservesOthers}
use Rattle.pool_file_checks.specs.Repositories.{Named}
use Rattle.pool_file.specs.declared.tenant_view.TenantView.{TenantView}
use Rattle.tenant_service.specs.declared.tenant.Tenant.{Tenant}
use Rattle.tenant_service.specs.TenantState.{TenantState, TenantStates, Idle, empty_repository, held_of}
use Rattle.tenant_service.specs.Tenants.{Accounts, Stands, holding_in}
use Rattle.tenant_service.specs.OneStep.{Store, held_in_store}

-- A new tenant has this repository. It stands beside all others.
pub record IsReceived (digest : List ℕ → List ℕ) (before : Cells) (repository : Repository)
    (after : Cells) (tenant : Tenant) : Type 0 where
  pub stands : Stands digest after tenant
  pub others : PreservesOthers before [] after tenant.table.entries
  pub held : holding_in after tenant ≡ Idle repository

-- A tenant came: it has its repository, and every other tenant has what it had.
pub record HasCome (digest : List ℕ → List ℕ) (one : Named) (before after : Store) : Type 0 where
  pub accounts : Accounts digest after.pool after.tenants
  pub here : held_in_store one.tenant after ≡ Idle one.repository
  pub others : (other : List ℕ) → bytes_eq other one.tenant ≡ false
      → held_in_store other after ≡ held_in_store other before

-- What is held of a tenant once these have come: its repository among them, and else what was held.
abbrev pub held_with : List ℕ → List Named → TenantStates → TenantState
held_with tenant came all =
    option_map_or Idle (lookup (bytes_eq tenant) (map (λ n. (n.tenant, n.repository)) came))
    (held_of tenant all)

-- The names of tenants that are lent.
abbrev pub names_lent : List TenantView → List (List ℕ)
names_lent lent = map (λ v. v.name.now) lent

-- What is held of a tenant without these: nothing if it is one of them, and else what was held.
abbrev pub held_without : List ℕ → List (List ℕ) → TenantStates → TenantState
held_without tenant names all =
    if is_member bytes_eq names tenant then Idle empty_repository else held_of tenant all

-- What is saved of tenants, whether they are owned or lent.
use Rattle.std.specs.Prelude.{ℕ, Bool, ◌||◌, not, List, nat_lt, length, map, filter, take}
use Rattle.std.specs.List.{AllByRecursion}
use Rattle.std.specs.Str.{bytes_eq}
use Rattle.git_model.specs.RefStore.{first_head}
use Rattle.content_pool.specs.Pool.{Cells}
use Rattle.tenant_tables.specs.Objects.{objects}
use Rattle.tenant_tables.specs.IsBackedBy.{IsBackedBy}
use Rattle.pool_file_checks.specs.Repositories.{Named}
use Rattle.pool_file.specs.declared.tenant.Tenant.{Tenant}
use Rattle.pool_file.specs.declared.tenant_view.TenantView.{TenantView}
use Rattle.pool_file.specs.Listing.{listed_by}

-- What is saved of a tenant: the first so many objects of its table, and its refs.
abbrev pub named_in : Cells → TenantView → Named
named_in pool saved = record {
  tenant = saved.name.now;
  repository = record {
    objects = take saved.objects (objects pool saved.table.now.entries);
    refs = saved.refs.now;
  };
}

-- The tenant that a view shows, and how many of its objects are saved.
abbrev pub tenant_seen : TenantView → Tenant × ℕ
tenant_seen view = (
  record {
    name = view.name.now;
    table = view.table.now;
    refs = view.refs.now;
  },
  view.objects,
)

-- A tenant, and how many of its objects are committed.
abbrev pub with_committed : Tenant → Tenant × ℕ
with_committed t = (t, t.table.committed)

-- What is saved of a tenant: its committed objects and its refs.
abbrev pub committed_in : Cells → Tenant → Named
committed_in pool t = record {
  tenant = t.name;
  repository = record {
    objects = take t.table.committed (objects pool t.table.entries);
    refs = t.refs;
  };
}

-- The tables of tenants stand in the pool.
abbrev pub TablesStand : (List ℕ → List ℕ) → Cells → List Tenant → Type 0
TablesStand digest pool tenants =
    AllByRecursion (λ t. IsBackedBy digest pool t.table.entries) tenants

-- The tables of all stand in the pool.
abbrev pub AllStand : (List ℕ → List ℕ) → Cells → List TenantView → Type 0
AllStand digest pool tenants =
    AllByRecursion (λ saved. IsBackedBy digest pool saved.table.now.entries) tenants

-- There is something to save: an object, or a HEAD other than `refs/heads/main`.
abbrev pub is_worth_saving : Named → Bool
is_worth_saving n = nat_lt 0 (length n.repository.objects)
    || not (bytes_eq n.repository.refs.head first_head)

-- The repositories that are worth saving, in rising order of the names of their tenants. Of several
-- under one name, the first.
abbrev pub worth_saving : List Named → List Named
worth_saving all = listed_by (λ n. n.tenant) (filter is_worth_saving all)

-- What is saved of tenants, in whatever order they are lent.
abbrev pub to_save : Cells → List TenantView → List Named
to_save pool tenants = worth_saving (map (named_in pool) tenants)

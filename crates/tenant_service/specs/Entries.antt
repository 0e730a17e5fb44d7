-- Tenants as they are lent to a save, and as a load gives them: definitions for the contracts of
-- private functions. No public clause cites them.
use Rattle.std.specs.Prelude.{◌≡◌, ℕ, List, [], ◌++◌, map}
use Rattle.git_model.specs.RefStore.{RefStore}
use Rattle.tenant_tables.specs.View.{View}
use Rattle.pool_file.specs.declared.tenant.Tenant.{Tenant as Loaded}
use Rattle.pool_file.specs.declared.tenant_view.TenantView.{TenantView}
use Rattle.tenant_service.specs.declared.tenant.OpenStream.{OpenStream}
use Rattle.tenant_service.specs.declared.tenant.OpenStream.TheVariants as phase
use Rattle.tenant_service.specs.declared.tenant.Tenant.{Tenant}
use Rattle.tenant_service.specs.Tenants.{Tenants}

-- A tenant that was loaded has no stream.
abbrev pub entry_of : Loaded → List ℕ × Tenant
entry_of loaded = (
  loaded.name,
  record {
    table = loaded.table;
    refs = loaded.refs;
    phase = phase.Closed;
    chain = [];
  },
)

-- The tenants that were taken in, followed by those that are left, are all of them.
abbrev pub AreAll : Tenants → List Loaded → List Loaded → Type 0
AreAll taken rest all = taken ++ map entry_of rest ≡ map entry_of all

-- A tenant's name, its table and how many of its objects are saved, and its refs: as they are lent,
-- and in the entry of the tenant.
pub record Parts : Type 0 where
  pub name : List ℕ
  pub table : View
  pub objects : ℕ
  pub refs : RefStore

abbrev pub parts_lent : TenantView → Parts
parts_lent saved = record {
  name = saved.name.now;
  table = saved.table.now;
  objects = saved.objects;
  refs = saved.refs.now;
}

-- At its last checkpoint.
abbrev pub parts_of : List ℕ × Tenant → Parts
parts_of e = record {
  name = e.0;
  table = e.1.table;
  objects = e.1.table.committed;
  refs = e.1.refs;
}

-- When its stream was opened.
abbrev pub parts_at : OpenStream → List ℕ × Tenant → Parts
parts_at phase.Closed e = parts_of e
parts_at (phase.Running opened stream) e =
    record (parts_of e) { objects = opened.objects; refs = opened.refs }
parts_at (phase.Dead opened code) e =
    record (parts_of e) { objects = opened.objects; refs = opened.refs }

abbrev pub opened_parts_of : List ℕ × Tenant → Parts
opened_parts_of e = parts_at e.1.phase e

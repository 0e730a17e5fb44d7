-- The contents of a file in a pool, and the tenants over it, while they are built.
use Rattle.std.specs.Prelude.{◌≡◌, ℕ, ◌+◌, ◌<◌, ◌≤◌, ◌==◌, true, All, List, [], ◌++◌, map, length, count_by, slice_get, Option, None, Some}
use Rattle.std.specs.List.{AllByRecursion}
use Rattle.git_model.specs.Limits.{objects_limit}
use Rattle.content_pool.specs.Pool.{Cells, IsLive, holds, content}
use Rattle.tenant_refs.specs.TenantName.{is_tenant_name}
use Rattle.tenant_tables.specs.View.{View}
use Rattle.tenant_tables.specs.Objects.{objects}
use Rattle.tenant_tables.specs.Room.{HasHoldsLeftBeside}
use Rattle.tenant_tables.specs.IsBackedBy.{IsBackedBy, PreservesOthers}
use Rattle.pool_file_format.specs.Format.{RawObject, RawTenant}
use Rattle.pool_file_checks.specs.Checks.{Passes}
use Rattle.pool_file_checks.specs.Objects.{raw_object, object_checks}
use Rattle.pool_file_checks.specs.Own.{own_objects, names_of, rows_of, AreDistinct}
use Rattle.pool_file_checks.specs.Sums.{TreesFit}
use Rattle.pool_file_checks.specs.Whole.{one_tenant_checks}
use Rattle.pool_file_checks.specs.Saved.{named_at}
use Rattle.pool_file.specs.declared.relatives.Shared.{Shared}
use Rattle.pool_file.specs.declared.tenant.Tenant.{Tenant}
use Rattle.pool_file.specs.Loading.{named_in, loaded_repositories, all_held}
use Rattle.pool_file.specs.Tables.{BeginAlike}

-- The objects of a file whose contents lie in these slots, in the order of the slots.
unfoldable pub objects_at : Cells → List ℕ → List RawObject
objects_at pool slots = map (λ s. raw_object (content pool s)) slots

-- What the numbers of a tenant and the slots of a file must be, so that its table can be loaded.
pub record MayLoad (digest : List ℕ → List ℕ) (pool : Cells) (slots numbers : List ℕ) : Type 0 where
  pub live : All (IsLive pool) slots
  pub room : HasHoldsLeftBeside pool []
  pub contents : Passes (object_checks None (objects_at pool slots))
  pub within : All (λ n. n < length slots) numbers
  pub few : length numbers ≤ objects_limit
  pub distinct : AreDistinct (rows_of (names_of digest (objects_at pool slots)) numbers)
  pub trees : TreesFit [] (own_objects digest (objects_at pool slots) numbers)

-- A table has the objects with these numbers, all committed, and its holds are all that the pool
-- has more.
pub record LoadsAll (digest : List ℕ → List ℕ) (slots numbers : List ℕ) (before after : Cells)
    (table : View) : Type 0 where
  pub stands : IsBackedBy digest after table.entries
  pub others : PreservesOthers before [] after table.entries
  pub objects : objects after table.entries ≡ own_objects digest (objects_at before slots) numbers
  pub committed : table.committed ≡ length table.entries

-- How often a slot occurs in a list.
unfoldable pub times_in : List ℕ → ℕ → ℕ
times_in slots s = count_by (λ t. t == s) slots

-- A tenant of a file with these objects that passed its checks.
pub record IsChecked (digest : List ℕ → List ℕ) (os : List RawObject) (t : RawTenant) : Type 0 where
  pub objects : Passes (object_checks None os)
  pub version : ℕ
  pub last : Option (List ℕ)
  pub passes : Passes (one_tenant_checks digest version os last t)

-- A tenant has a good name, and its objects stand in the pool and are committed.
pub record IsBuilt (digest : List ℕ → List ℕ) (pool : Cells) (t : Tenant) : Type 0 where
  pub name : is_tenant_name t.name ≡ true
  pub stands : IsBackedBy digest pool t.table.entries
  pub committed : t.table.committed ≡ length t.table.entries

-- The slots are distinct. The pool counts one hold for each of them and the holds of each tenant,
-- and no others.
pub record AreUnder (digest : List ℕ → List ℕ) (slots : List ℕ) (pool : Cells)
    (tenants : List Tenant) : Type 0 where
  pub once : (s : ℕ) → times_in slots s ≤ 1
  pub counts : (s : ℕ) → holds pool s ≡ times_in slots s + all_held tenants s
  pub each : AllByRecursion (IsBuilt digest pool) tenants

-- A tenant's table begins with the objects of the first numbers, as many as are to be shared.
pub record SharesFront (slots numbers : List ℕ) (tenants : List Tenant) (s : Shared) : Type 0 where
  pub tenant : Tenant
  pub there : slice_get tenants s.place ≡ Some tenant
  pub alike : BeginAlike tenant.table.entries slots numbers s.count

-- A tenant was built, and it is what the file says of it.
pub record Builds (digest : List ℕ → List ℕ) (os : List RawObject) (r : RawTenant) (before : Cells)
    (after : Cells) (t : Tenant) : Type 0 where
  pub built : IsBuilt digest after t
  pub says : named_in after t ≡ named_at digest os r
  pub others : PreservesOthers before [] after t.table.entries

-- More tenants were built, and they are what the file says of them.
pub record AddsTenants (digest : List ℕ → List ℕ) (slots : List ℕ) (before : Cells) (old : List Tenant)
    (rs : List RawTenant) (after : Cells) (new : List Tenant) : Type 0 where
  pub under : AreUnder digest slots after new
  pub objects : objects_at after slots ≡ objects_at before slots
  pub says : loaded_repositories after new
      ≡ loaded_repositories before old ++ map (named_at digest (objects_at before slots)) rs

-- What a load of a pool file answers.
use Rattle.std.specs.Prelude.{◌≡◌, ℕ, true, List, [], map, length, sum_by, Option, None, Some, Result, Ok, Err, IfOk}
use Rattle.std.specs.Global.{Vec}
use Rattle.std.specs.List.{AllByRecursion}
use Rattle.byte_devices.specs.Device.{Device}
use Rattle.content_pool.specs.Pool.{Cells, holds}
use Rattle.tenant_tables.specs.View.{held}
use Rattle.tenant_tables.specs.Objects.{objects}
use Rattle.tenant_tables.specs.IsBackedBy.{IsBackedBy}
use Rattle.tenant_refs.specs.TenantName.{is_tenant_name}
use Rattle.pool_file_format.specs.declared.fault.Fault.{Fault}
use Rattle.pool_file_format.specs.declared.fault.Fault.TheVariants as fault
use Rattle.pool_file_format.specs.Format.{RawFile}
use Rattle.pool_file_format.specs.Taking.{shown}
use Rattle.pool_file_checks.specs.FileRefs.{AreRising}
use Rattle.pool_file_checks.specs.Repositories.{Named}
use Rattle.pool_file_checks.specs.Saved.{saved_in}
use Rattle.pool_file_checks.specs.Saving.{IsGood, IsTextOf}
use Rattle.pool_file_checks.specs.Judging.{IsJudged, IsRefused, IsBlamed}
use Rattle.pool_file.specs.declared.tenant.Tenant.{Tenant}

-- The repository of a loaded tenant, whose objects stand in a table over a pool.
abbrev pub named_in : Cells → Tenant → Named
named_in pool t = record {
  tenant = t.name;
  repository = record { objects = objects pool t.table.entries; refs = t.refs };
}

-- The repositories that were loaded, in the order of the file.
unfoldable pub loaded_repositories : Cells → List Tenant → List Named
loaded_repositories pool tenants = map (named_in pool) tenants

-- How often their tables hold a slot.
abbrev pub all_held : List Tenant → ℕ → ℕ
all_held tenants s = sum_by (λ t. held t.table.entries s) tenants

-- A tenant has a good name and a good repository, whose objects stand in the pool and are
-- committed.
pub record IsTenant (digest : List ℕ → List ℕ) (pool : Cells) (t : Tenant) : Type 0 where
  pub name : is_tenant_name t.name ≡ true
  pub stands : IsBackedBy digest pool t.table.entries
  pub committed : t.table.committed ≡ length t.table.entries
  pub good : IsGood digest (named_in pool t).repository

-- Each tenant is good, their names rise, and the pool counts the holds of their tables and no
-- others.
pub record AreTenants (digest : List ℕ → List ℕ) (pool : Cells) (tenants : List Tenant)
    : Type 0 where
  pub each : AllByRecursion (IsTenant digest pool) tenants
  pub rising : AreRising None (map (λ t. t.name) tenants)
  pub counts : (s : ℕ) → holds pool s ≡ all_held tenants s

-- All of the bytes are read as a file with its digest, which passes all checks and says these
-- repositories.
pub record AreRead (digest : List ℕ → List ℕ) (bytes : List ℕ) (all : List Named) : Type 0 where
  pub file : RawFile
  pub judged : IsJudged digest bytes file
  pub says : saved_in digest file ≡ all

-- What is answered if the reader has these bytes, and which bytes it has left. `Device` and
-- `Memory` may replace any answer.
abbrev pub LoadsAs : (List ℕ → List ℕ) → Option (List ℕ) → Result (List Named) Fault
    → Option (List ℕ) → Type 0
LoadsAs digest None r new = Unit {0}
LoadsAs digest (Some bytes) (Ok all) new = AreRead digest bytes all × (new ≡ Some [])
LoadsAs digest (Some bytes) (Err (fault.Refused r)) new = IsRefused digest bytes r
LoadsAs digest (Some bytes) (Err fault.Device) new = Unit {0}
LoadsAs digest (Some bytes) (Err fault.Memory) new = Unit {0}

-- If repositories are answered, the bytes are a text of them.
abbrev pub LoadsText : (List ℕ → List ℕ) → Option (List ℕ) → Result (List Named) Fault → Type 0
LoadsText digest None r = Unit {0}
LoadsText digest (Some bytes) (Ok all) = IsTextOf digest all bytes
LoadsText digest (Some bytes) (Err e) = Unit {0}

-- The answer is these repositories, or `Device`, or `Memory`.
abbrev pub IsAnswer : List Named → Result (List Named) Fault → Type 0
IsAnswer all (Ok found) = found ≡ all
IsAnswer all (Err (fault.Refused r)) = ⊥
IsAnswer all (Err fault.Device) = Unit {0}
IsAnswer all (Err fault.Memory) = Unit {0}

-- Every text of repositories is answered with them.
abbrev pub LoadsEach : (List ℕ → List ℕ) → Option (List ℕ) → Result (List Named) Fault → Type 0
LoadsEach digest None r = Unit {0}
LoadsEach digest (Some bytes) r =
    (all : List Named) → IsTextOf digest all bytes → IsAnswer all r

-- What a load answers, and what it does to the reader. The tenants are good ones over the pool even
-- if the reader's bytes are not known.
pub record Loads (digest : List ℕ → List ℕ) (bound : ℕ) (old : Device)
    (r : Result (Cells × Vec Tenant) Fault) (new : Device) : Type 0 where
  pub exact : LoadsAs digest old.known (shown (λ x. loaded_repositories x.0 x.1.items) r) new.known
  pub found : LoadsText digest old.known (shown (λ x. loaded_repositories x.0 x.1.items) r)
  pub only : LoadsEach digest old.known (shown (λ x. loaded_repositories x.0 x.1.items) r)
  pub cause : IsBlamed bound old (shown (λ x. loaded_repositories x.0 x.1.items) r) new
  pub tenants : IfOk r (λ x. AreTenants digest x.0 x.1.items)

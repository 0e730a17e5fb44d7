-- The repositories of a service in a pool file: those that are saved, and what is held of those
-- that were loaded.
use Rattle.std.specs.Prelude.{◌≡◌, ℕ, List, [], map, Contains, Option, None, Some, unwrap_or, Result, Ok, Err}
use Rattle.std.specs.Map.{lookup}
use Rattle.std.specs.Str.{bytes_eq}
use Rattle.byte_devices.specs.Device.{Device}
use Rattle.git_model.specs.Content.{Content}
use Rattle.git_model.specs.Repository.{Repository}
use Rattle.pool_file_format.specs.declared.fault.Fault.{Fault}
use Rattle.pool_file_format.specs.declared.fault.Fault.TheVariants as fault
use Rattle.pool_file_checks.specs.Repositories.{Named}
use Rattle.pool_file_checks.specs.Saving.{IsTextOf}
use Rattle.pool_file_checks.specs.Judging.{IsRefused, IsBlamed}
use Rattle.pool_file.specs.Loading.{AreRead}
use Rattle.pool_file.specs.Worth.{worth_saving}
use Rattle.tenant_service.specs.TenantState.{TenantState, TenantStates, Idle, empty_repository, held_of}
use Rattle.tenant_service.specs.HeldObjects.{last_held, opened_held}

-- The repository of each tenant at its last checkpoint, under the tenant's name.
abbrev pub last_named : TenantStates → List Named
last_named all = map (λ e. record { tenant = e.0; repository = last_held e.1 }) all

-- Those that are saved: each has an object, or a HEAD other than the first.
abbrev pub saved_of : TenantStates → List Named
saved_of all = worth_saving (last_named all)

-- Every tenant as it was when its stream was opened, and without a stream.
abbrev pub as_opened : TenantStates → TenantStates
as_opened all = map (λ e. (e.0, Idle (opened_held e.1))) all

-- Those that are saved so.
abbrev pub saved_as_opened : TenantStates → List Named
saved_as_opened all = saved_of (as_opened all)

-- One of the tenants has an object with this content at its last checkpoint.
pub record SomebodyHas (c : Content) (all : TenantStates) : Type 0 where
  pub tenant : List ℕ
  pub held : TenantState
  pub there : Contains all (tenant, held)
  pub has : Contains (map (λ o. o.content) (last_held held).objects) c

-- The repository of a tenant among some, or an empty one if it has none there.
abbrev pub repository_of : List ℕ → List Named → Repository
repository_of tenant all =
    unwrap_or (lookup (bytes_eq tenant) (map (λ n. (n.tenant, n.repository)) all)) empty_repository

-- The service holds just these repositories, an empty one of every other tenant, and no stream.
abbrev pub HasJust : List Named → TenantStates → Type 0
HasJust all held = (tenant : List ℕ) → held_of tenant held ≡ Idle (repository_of tenant all)

-- All of the bytes are read as some repositories, and the service holds just these.
pub record IsReadFrom (digest : List ℕ → List ℕ) (bytes : List ℕ) (held : TenantStates)
    : Type 0 where
  pub all : List Named
  pub read : AreRead digest bytes all
  pub has : HasJust all held

-- The bytes are a text of some repositories, and the service holds just these.
pub record IsLoadedFrom (digest : List ℕ → List ℕ) (bytes : List ℕ) (held : TenantStates)
    : Type 0 where
  pub all : List Named
  pub text : IsTextOf digest all bytes
  pub has : HasJust all held

-- The answer if the reader has these bytes, and the bytes that it has afterwards. Any answer may be
-- replaced by a fault of a device, or by running out of memory.
abbrev pub LoadsAs : (List ℕ → List ℕ) → Option (List ℕ) → Result TenantStates Fault
    → Option (List ℕ) → Type 0
LoadsAs digest None r new = Unit {0}
LoadsAs digest (Some bytes) (Ok held) new = IsReadFrom digest bytes held × (new ≡ Some [])
LoadsAs digest (Some bytes) (Err (fault.Refused r)) new = IsRefused digest bytes r
LoadsAs digest (Some bytes) (Err fault.Device) new = Unit {0}
LoadsAs digest (Some bytes) (Err fault.Memory) new = Unit {0}

-- If the answer is a service, the bytes are a text of what it has.
abbrev pub LoadsText : (List ℕ → List ℕ) → Option (List ℕ) → Result TenantStates Fault → Type 0
LoadsText digest None r = Unit {0}
LoadsText digest (Some bytes) (Ok held) = IsLoadedFrom digest bytes held
LoadsText digest (Some bytes) (Err e) = Unit {0}

-- The answer is a service that has these repositories, unless device or memory fails.
abbrev pub IsAnswer : List Named → Result TenantStates Fault → Type 0
IsAnswer all (Ok held) = HasJust all held
IsAnswer all (Err (fault.Refused r)) = ⊥
IsAnswer all (Err fault.Device) = Unit {0}
IsAnswer all (Err fault.Memory) = Unit {0}

-- If the bytes are a text of some repositories, the answer is a service that has just these.
abbrev pub LoadsEach : (List ℕ → List ℕ) → Option (List ℕ) → Result TenantStates Fault → Type 0
LoadsEach digest None r = Unit {0}
LoadsEach digest (Some bytes) r =
    (all : List Named) → IsTextOf digest all bytes → IsAnswer all r

-- What a load answers, and what it does to the reader.
pub record Loads (digest : List ℕ → List ℕ) (bound : ℕ) (old : Device)
    (r : Result TenantStates Fault) (new : Device) : Type 0 where
  -- if the bytes of the reader are known: what they say, or the first refusal
  pub exact : LoadsAs digest old.known r new.known
  -- the bytes are a text of what the service has
  pub found : LoadsText digest old.known r
  -- each text of repositories gives a service that has them
  pub only : LoadsEach digest old.known r
  -- which calls are made, and when the device is blamed
  pub cause : IsBlamed bound old r new

-- Where the parts of a tenant lie: its objects in a table over the shared pool, its refs, and the
-- phase of its stream.
use Rattle.std.specs.Prelude.{◌≡◌, ℕ, Bool, true, false, if◌then◌else◌, List, [], length, take, map, filter_map, nat_lt, sum_by}
use Rattle.std.specs.List.{AllByRecursion}
use Rattle.git_model.specs.Content.{Content, same_content}
use Rattle.git_model.specs.RefStore.{RefStore}
use Rattle.git_model.specs.Repository.{Object}
use Rattle.content_pool.specs.Pool.{Cells, content_of, holds}
use Rattle.tenant_refs.specs.TenantName.{is_tenant_name}
use Rattle.tenant_tables.specs.View.{View, held, in_sight}
use Rattle.tenant_tables.specs.declared.sight.Sight.TheVariants.{Committed}
use Rattle.tenant_tables.specs.Objects.{objects}
use Rattle.tenant_tables.specs.IsBackedBy.{IsBackedBy}
use Rattle.revisions.specs.FirstParents.{IsFirstParentChain}
use Rattle.stream_lex.specs.Items.{Tail, Rest}
use Rattle.stream_commands.specs.Held.{HoldsFiles}
use Rattle.import_session.specs.Session.{repository_in}
use Rattle.import_session.specs.Stream.{StreamStatus, Runs, Refused}
use Rattle.tenant_service.specs.declared.tenant.OpenStream.{OpenStream}
use Rattle.tenant_service.specs.declared.tenant.OpenStream.TheVariants as phase
use Rattle.tenant_service.specs.declared.tenant.Tenant.{Tenant}
use Rattle.tenant_service.specs.Alone.{State}
use Rattle.tenant_stream.specs.Carrying.{StreamView, stream_in}
use Rattle.tenant_service.specs.TenantState.{TenantState, Idle, Busy, TenantStates, Represents, held_of}
use Rattle.tenant_service.specs.Soundness.{IsSoundTenantState}
use Rattle.tenant_service.specs.Opening.{HasOpened, opened_in}
use Rattle.tenant_service.specs.HeldObjects.{held_objects, last_held, tenants_with}

-- After `done` no bytes are kept.
unfoldable pub kept_tail : StreamView → Tail
kept_tail stream = if stream.session.is_done then Rest false [] else stream.tail

-- How a stream stands whose objects are in a table over a pool.
abbrev pub standing_in : StreamView → Cells → View → RefStore → StreamStatus
standing_in stream pool table refs = Runs (stream_in stream pool table refs) (kept_tail stream)

-- What is held of a tenant.
abbrev pub held_in : OpenStream → Cells → View → RefStore → TenantState
held_in phase.Closed pool table refs = Idle (repository_in pool table refs)
held_in (phase.Running opened stream) pool table refs =
    Busy (opened_in opened pool table) (standing_in stream pool table refs)
held_in (phase.Dead opened code) pool table refs =
    Busy (opened_in opened pool table) (Refused code (repository_in pool table refs))

abbrev pub holding_in : Cells → Tenant → TenantState
holding_in pool tenant = held_in tenant.phase pool tenant.table tenant.refs

-- If no stream runs, all objects are committed.
abbrev pub IsSettled : OpenStream → View → Type 0
IsSettled phase.Closed table = table.committed ≡ length table.entries
IsSettled (phase.Running opened stream) table = Unit {0}
IsSettled (phase.Dead opened code) table = table.committed ≡ length table.entries

-- If a stream runs, the files that it holds of its commits are among these objects.
abbrev pub HoldsIn : (List ℕ → List ℕ) → List Object → OpenStream → Type 0
HoldsIn digest objects phase.Closed = Unit {0}
HoldsIn digest objects (phase.Running opened stream) = HoldsFiles digest objects stream.session.state
HoldsIn digest objects (phase.Dead opened code) = Unit {0}

-- A tenant's table stands in the pool. What its stream was opened on is committed. The files that
-- its stream holds are among its objects, and the first parents that queries met are among the
-- objects of the last checkpoint.
pub record Stands (digest : List ℕ → List ℕ) (pool : Cells) (tenant : Tenant) : Type 0 where
  pub entries : IsBackedBy digest pool tenant.table.entries
  pub settled : IsSettled tenant.phase tenant.table
  pub opened : HasOpened tenant.phase tenant.table
  pub files : HoldsIn digest (objects pool tenant.table.entries) tenant.phase
  pub chain : IsFirstParentChain (objects pool (in_sight Committed tenant.table)) tenant.chain

-- All tenants by their names.
abbrev pub Tenants : Type 0
Tenants = List (List ℕ × Tenant)

-- How often the tables of all tenants hold a slot.
abbrev pub all_held : Tenants → ℕ → ℕ
all_held tenants s = sum_by (λ e. held e.1.table.entries s) tenants

-- The accounts of the pool: each tenant has a good name, and its table stands in the pool; and the
-- pool holds a slot as often as the tables do.
pub record Accounts (digest : List ℕ → List ℕ) (pool : Cells) (tenants : Tenants) : Type 0 where
  pub names : AllByRecursion (λ e. is_tenant_name e.0 ≡ true) tenants
  pub stands : AllByRecursion (λ e. Stands digest pool e.1) tenants
  pub counts : (s : ℕ) → holds pool s ≡ all_held tenants s

-- What is held of each tenant.
abbrev pub holdings : Cells → Tenants → TenantStates
holdings pool tenants = map (λ e. (e.0, holding_in pool e.1)) tenants

-- Whether a table has a committed object.
abbrev pub has_committed : View → Bool
has_committed table = nat_lt 0 (length (take table.committed table.entries))

-- A pool, a table and refs show what is held of a tenant: its objects in order, how many of them
-- stood at the last checkpoint, and the refs and objects of that checkpoint.
pub record Shows (held : TenantState) (pool : Cells) (table : View) (refs : RefStore) : Type 0 where
  pub all : objects pool table.entries ≡ held_objects held
  pub committed : take table.committed (objects pool table.entries) ≡ (last_held held).objects
  pub saved : refs ≡ (last_held held).refs

-- How often a pool holds a content, in whatever slots: `Pool::put` leaves each content in one.
abbrev pub holds_of : Cells → Content → ℕ
holds_of pool c =
    sum_by (λ e. if same_content c (content_of e) then e.holds else 0) (filter_map (λ o. o) pool)

-- A pool counts tenants: it holds each content as often as there are tenants that have an object
-- with it. No table holds a content twice, so this is also how often the tables hold it.
abbrev pub CountsTenants : Cells → TenantStates → Type 0
CountsTenants pool all = (c : Content) → holds_of pool c ≡ tenants_with c all

-- For every tenant there is a state of its own that leads to what is held of it.
abbrev pub AreLed : (List ℕ → List ℕ) → TenantStates → Type 0
AreLed digest all = (tenant : List ℕ) → (state : State) × Represents digest state
    (held_of tenant all)

-- What is held of every tenant is sound.
abbrev pub AreSound : (List ℕ → List ℕ) → TenantStates → Type 0
AreSound digest all = (tenant : List ℕ) → IsSoundTenantState digest (held_of tenant all)

-- What is always true of a service.
pub record IsService (digest : List ℕ → List ℕ) (pool : Cells) (tenants : Tenants) : Type 0 where
  pub accounts : Accounts digest pool tenants
  pub led : AreLed digest (holdings pool tenants)
  pub sound : AreSound digest (holdings pool tenants)

-- The objects of what is held, the contents of all tenants, and a code of refs.
use Rattle.std.specs.Prelude.{ℕ, Bool, false, nat_lt, List, length, map, count_by}
use Rattle.std.specs.List.{flat_map}
use Rattle.std.specs.Set.{is_member}
use Rattle.std.specs.Coded.{Coded, coded_list, coded_ℕ}
use Rattle.std.specs.FinMap as map
use Rattle.git_model.specs.RefStore.{RefMap}
use Rattle.git_model.specs.Content.{Content, same_content}
use Rattle.git_model.specs.Repository.{Repository, Object}
use Rattle.import_session.specs.Stream.{StreamStatus, Runs, Refused}
use Rattle.tenant_service.specs.Alone.{last_of}
use Rattle.tenant_service.specs.TenantState.{TenantState, Idle, Busy, TenantStates}

-- The objects of a tenant, those of its running stream so far included.
abbrev pub standing_objects : StreamStatus → List Object
standing_objects (Runs now tail) = now.workspace.objects
standing_objects (Refused code repository) = repository.objects

abbrev pub held_objects : TenantState → List Object
held_objects (Idle repository) = repository.objects
held_objects (Busy opened status) = standing_objects status

-- The repository at the last checkpoint.
abbrev pub last_held : TenantState → Repository
last_held (Idle repository) = repository
last_held (Busy opened status) = last_of status

-- The repository at the Open of the stream; without a stream, the repository.
abbrev pub opened_held : TenantState → Repository
opened_held (Idle repository) = repository
opened_held (Busy opened status) = opened

-- Whether a stream runs that has read `done`, so that no later byte counts.
abbrev pub has_read_done : TenantState → Bool
has_read_done (Idle repository) = false
has_read_done (Busy opened (Runs now tail)) = now.is_done
has_read_done (Busy opened (Refused code repository)) = false

-- Whether the repository at the last checkpoint has an object.
abbrev pub has_committed_object : TenantState → Bool
has_committed_object held = nat_lt 0 (length (last_held held).objects)

-- The contents of all objects of all tenants.
abbrev pub held_contents : TenantStates → List Content
held_contents all = flat_map (λ e. map (λ o. o.content) (held_objects e.1)) all

-- How many tenants have an object with this content.
abbrev pub tenants_with : Content → TenantStates → ℕ
tenants_with c all =
    count_by (λ e. is_member same_content (map (λ o. o.content) (held_objects e.1)) c) all

-- A code of the refs of a repository: the view of a `Service` needs a code of each of its parts.
abbrev pub ref_map_code : Coded RefMap
ref_map_code = map.code (coded_list coded_ℕ) (coded_list coded_ℕ)

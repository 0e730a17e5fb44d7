-- What the service holds of a tenant: enough to go on, and the repository at Open, but not the bytes
-- since.
use Rattle.std.specs.Prelude.{◌≡◌, ℕ, List, [], unwrap_or}
use Rattle.std.specs.Map.{lookup}
use Rattle.std.specs.Str.{bytes_eq}
use Rattle.git_model.specs.RefStore.{no_refs}
use Rattle.git_model.specs.Repository.{Repository}
use Rattle.import_session.specs.Stream.{StreamStatus, Runs, Refused}
use Rattle.tenant_service.specs.Alone.{State, Closed, Streaming, Dead, stream_of}

-- Without a stream the service holds a tenant's repository; with one, the repository that the stream
-- was opened on, and how the stream stands.
pub data TenantState : Type 0 where
  Idle : Repository → TenantState
  Busy : Repository → StreamStatus → TenantState

-- A state of its own leads to what is held: to the same repository; or to the repository at Open,
-- and to how the stream of all bytes since Open stands. A stream that is dead says nothing of what
-- it was opened on.
abbrev pub Represents : (List ℕ → List ℕ) → State → TenantState → Type 0
Represents digest (Closed repository) (Idle held) = repository ≡ held
Represents digest (Streaming repository bytes) (Busy opened (Runs now tail)) =
    (repository ≡ opened) × ((stream_of digest repository bytes).status ≡ Runs now tail)
Represents digest (Dead code repository) (Busy opened status) = status ≡ Refused code repository
Represents digest _ _ = ⊥

-- A repository without objects and refs.
abbrev pub empty_repository : Repository
empty_repository = record { objects = []; refs = no_refs }

-- What is held of each tenant, by its name; of one that was never seen, an empty repository.
abbrev pub TenantStates : Type 0
TenantStates = List (List ℕ × TenantState)

abbrev pub held_of : List ℕ → TenantStates → TenantState
held_of tenant all = unwrap_or (lookup (bytes_eq tenant) all) (Idle empty_repository)

-- One stream over a repository, from a reader to a writer: git-fast-import(1).
use Rattle.std.specs.Prelude.{◌≡◌, ◌≤◌, ◌+◌, ℕ, Bool, true, false, List, [], ◌++◌, length, Option, None, Some, Result, Ok, Err, ◌⊎◌}
use Rattle.std.specs.Io.KnownBytes.{Appends, IsAtEnd}
use Rattle.git_model.specs.Limits.{reads_limit}
use Rattle.git_model.specs.Repository.{Repository}
use Rattle.git_objects.specs.Device.{Device, HasRead, IsWell, AppendsFront, counted_on}
use Rattle.import_session.specs.Stream.{Outcome, StreamStatus, Runs, Refused, End, finished}
use Rattle.gitpool.specs.declared.step_fault.StepFault.{StepFault}
use Rattle.gitpool.specs.declared.step_fault.StepFault.TheVariants as fault
use Rattle.gitpool.specs.Devices.{AreWell, HasReadFailed, HasWriteFailed, AppendsAsFar}
use Rattle.tenant_service.specs.Alone.{stream_of}
use Rattle.tenant_service.specs.TenantState.{empty_repository}

-- How a stream over a repository ends after these bytes.
abbrev pub end_in : (List ℕ → List ℕ) → Repository → List ℕ → End
end_in digest repository bytes = finished digest (stream_of digest repository bytes).status

-- The number of the fault at its end; `None` if it ends well.
abbrev pub end_fault : (List ℕ → List ℕ) → Repository → List ℕ → Option ℕ
end_fault digest repository bytes = (end_in digest repository bytes).fault

-- All that it prints: the replies to its items, and then the reply of its end.
abbrev pub printed_by : (List ℕ → List ℕ) → Repository → List ℕ → List ℕ
printed_by digest repository bytes =
    (stream_of digest repository bytes).replies ++ (end_in digest repository bytes).reply

-- What it prints for the bytes read, with the reply of its end if it came to its end.
abbrev pub printed_so_far : (List ℕ → List ℕ) → Repository → List ℕ → Bool → List ℕ
printed_so_far digest repository bytes true = printed_by digest repository bytes
printed_so_far digest repository bytes false = (stream_of digest repository bytes).replies

-- No byte after these changes what is printed or how the stream ends.
abbrev pub IsSettled : (List ℕ → List ℕ) → Repository → List ℕ → Type 0
IsSettled digest repository bytes = (more : List ℕ)
    → stream_of digest repository (bytes ++ more) ≡ stream_of digest repository bytes

-- A stream asks for more bytes: it was not refused, and did not read `done`.
abbrev pub AsksForMore : StreamStatus → Type 0
AsksForMore (Runs now tail) = now.is_done ≡ false
AsksForMore (Refused code repository) = ⊥

-- A reader was called at most once more than it gave bytes, and at most 2^32 times.
pub record HasAsked (reader reader' : Device) (bytes : List ℕ) : Type 0 where
  pub giving : reader'.calls ≤ reader.calls + length bytes + 1
  pub bounded : reader'.calls ≤ reader.calls + reads_limit

-- The effect of an import on its service: a relation between whether the stream was ended and the
-- bytes that were read.
abbrev pub ServiceEffect : Type 1
ServiceEffect = Bool → List ℕ → Type 0

-- The whole stream was read and carried out, or as much of it as counts. It ended with this fault,
-- or with none, and exactly its replies and the reply of its end were written. No call failed.
pub record IsImported (digest : List ℕ → List ℕ) (repository : Repository) (Effect : ServiceEffect)
    (reader reader' writer writer' : Device) (end : Option ℕ) : Type 0 where
  pub bytes : List ℕ
  pub effect : Effect true bytes
  pub read : HasRead reader reader' bytes
  pub asked : HasAsked reader reader' bytes
  pub written : Appends writer.known writer'.known (printed_by digest repository bytes)
  pub ended : end_fault digest repository bytes ≡ end
  pub last : IsAtEnd reader'.known ⊎ IsSettled digest repository bytes
  pub well : AreWell reader reader' writer writer'

-- The reader never ends: it was called as often as one import may call it, and gave at least as
-- many bytes.
pub record IsEndless (reader reader' writer writer' : Device) (bytes : List ℕ) : Type 0 where
  pub often : counted_on reader.calls reads_limit ≤ reader'.calls
  pub giving : reads_limit ≤ length bytes
  pub well : AreWell reader reader' writer writer'

-- Exactly one device is to blame: a write failed; or the stream asked for more, and either the read
-- for it failed or the reader never ends.
abbrev pub IsDevice : (List ℕ → List ℕ) → Repository → List ℕ → Device → Device → Device → Device
    → Type 0
IsDevice digest repository bytes reader reader' writer writer' =
    HasWriteFailed reader reader' writer writer'
    ⊎ (AsksForMore (stream_of digest repository bytes).status
    × (HasReadFailed reader reader' writer writer' ⊎ IsEndless reader reader' writer writer' bytes))

-- The import was given up after these bytes. A prefix of the replies was written, and all of them
-- if no write failed. The stream came to its end only if no read failed.
pub record IsGivenUp (digest : List ℕ → List ℕ) (repository : Repository) (Effect : ServiceEffect)
    (reader reader' writer writer' : Device) : Type 0 where
  pub bytes : List ℕ
  pub read : HasRead reader reader' bytes
  pub asked : HasAsked reader reader' bytes
  pub at_end : Bool
  pub effect : Effect at_end bytes
  pub end : at_end ≡ true
      → IsWell reader reader' × (IsAtEnd reader'.known ⊎ IsSettled digest repository bytes)
  pub written : AppendsAsFar writer writer' (printed_so_far digest repository bytes at_end)
  pub blamed : IsDevice digest repository bytes reader reader' writer writer'

-- Memory ran out after a prefix of the replies was written. No call failed. The stream was ended,
-- unless none was opened.
pub record IsStopped (digest : List ℕ → List ℕ) (repository : Repository) (Effect : ServiceEffect)
    (reader reader' writer writer' : Device) : Type 0 where
  pub bytes : List ℕ
  pub ended : Bool
  pub unopened : ended ≡ false → bytes ≡ []
  pub effect : Effect ended bytes
  pub read : HasRead reader reader' bytes
  pub asked : HasAsked reader reader' bytes
  pub written : AppendsFront writer.known writer'.known (stream_of digest repository bytes).replies
  pub well : AreWell reader reader' writer writer'

-- What an import did, by its answer.
abbrev pub ImportsInto : (List ℕ → List ℕ) → Repository → ServiceEffect → Device → Device → Device
    → Device → Result Unit StepFault → Type 0
ImportsInto digest repository Effect reader reader' writer writer' (Ok u) =
    IsImported digest repository Effect reader reader' writer writer' None
ImportsInto digest repository Effect reader reader' writer writer' (Err (fault.Refused code)) =
    IsImported digest repository Effect reader reader' writer writer' (Some code)
ImportsInto digest repository Effect reader reader' writer writer' (Err fault.Device) =
    IsGivenUp digest repository Effect reader reader' writer writer'
ImportsInto digest repository Effect reader reader' writer writer' (Err fault.Memory) =
    IsStopped digest repository Effect reader reader' writer writer'

-- The same over an empty repository, of which nothing is kept.
abbrev pub outcome_of : (List ℕ → List ℕ) → List ℕ → Outcome
outcome_of digest bytes = stream_of digest empty_repository bytes

abbrev pub end_of : (List ℕ → List ℕ) → List ℕ → End
end_of digest bytes = end_in digest empty_repository bytes

abbrev pub AnyEffect : ServiceEffect
AnyEffect ended bytes = Unit {0}

abbrev pub Imports : (List ℕ → List ℕ) → Device → Device → Device → Device
    → Result Unit StepFault → Type 0
Imports digest reader reader' writer writer' answer =
    ImportsInto digest empty_repository AnyEffect reader reader' writer writer' answer

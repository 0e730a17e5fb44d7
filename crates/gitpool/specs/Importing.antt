-- An import of a tenant: its state between two pieces of the stream, what one more piece does, and
-- how the import ends.
use Rattle.std.specs.Prelude.{◌≡◌, ℕ, Bool, true, false, if◌then◌else◌, List, [], ◌∷◌, ◌++◌, map, Option, None, Some, Result, Ok, Err, ◌⊎◌}
use Rattle.std.specs.List.{AllByRecursion, flat_map}
use Rattle.std.specs.Io.KnownBytes.{Appends, IsAtEnd}
use Rattle.git_model.specs.Repository.{Repository}
use Rattle.git_objects.specs.Device.{Device, HasRead, HasFault, IsWell, AppendsFront}
use Rattle.import_session.specs.Stream.{Refused}
use Rattle.service_steps.specs.declared.fault.ServiceFault.TheVariants as service
use Rattle.service_steps.specs.Faults.{code_of}
use Rattle.tenant_refs.specs.TenantName.{is_tenant_name}
use Rattle.tenant_service.specs.Alone.{Call, Open, Feed, End, Streaming, stream_of, added}
use Rattle.tenant_service.specs.Copying.{HasTaken}
use Rattle.tenant_service.specs.Headline.{Run, call_of}
use Rattle.tenant_service.specs.TenantState.{TenantState, Idle, Busy, TenantStates, Represents, held_of}
use Rattle.tenant_service.specs.StepName.{name_of}
use Rattle.gitpool.specs.declared.step_fault.StepFault.{StepFault}
use Rattle.gitpool.specs.declared.step_fault.StepFault.TheVariants as fault
use Rattle.gitpool.specs.Devices.{AreWell}
use Rattle.gitpool.specs.Import.{ServiceEffect, HasAsked, IsSettled, ImportsInto, IsGivenUp, end_in}

-- ---- the steps

-- A run consists of these calls of this tenant, in this order.
pub record IsRunOf (tenant : List ℕ) (calls : List Call) (run : Run) : Type 0 where
  pub named : AllByRecursion (λ taken. name_of taken.0 ≡ tenant) run
  pub are : map (λ taken. call_of taken.0) run ≡ calls

-- A service took these calls of a tenant, and no other step. Every tenant was told what it is told
-- in a repository of its own.
abbrev pub HasTakenCalls : (List ℕ → List ℕ) → List ℕ → TenantStates → TenantStates → List Call
    → Type 0
HasTakenCalls digest tenant before after calls =
    HasTaken digest before after (λ run. IsRunOf tenant calls run)

-- A stream is fed in pieces, and then ended if `ended` is true.
abbrev pub stream_calls : List (List ℕ) → Bool → List Call
stream_calls pieces ended = map Feed pieces ++ (if ended then End ∷ [] else [])

-- A service took the calls that feed these bytes to an open stream, and that end it if `ended` is
-- true.
pub record HasFed (digest : List ℕ → List ℕ) (tenant : List ℕ) (before after : TenantStates)
    (ended : Bool) (bytes : List ℕ) : Type 0 where
  pub pieces : List (List ℕ)
  pub parts : flat_map (λ piece. piece) pieces ≡ bytes
  pub taken : HasTakenCalls digest tenant before after (stream_calls pieces ended)

-- A service took the calls of an import of these bytes: it opened a stream, fed it, and ended it if
-- `ended` is true.
pub record HasImported (digest : List ℕ → List ℕ) (tenant : List ℕ) (before after : TenantStates)
    (ended : Bool) (bytes : List ℕ) : Type 0 where
  pub pieces : List (List ℕ)
  pub parts : flat_map (λ piece. piece) pieces ≡ bytes
  pub taken : HasTakenCalls digest tenant before after (Open ∷ stream_calls pieces ended)

-- ---- Open

-- A tenant with a good name has this repository and no stream, so a stream can be opened.
abbrev pub CanOpen : List ℕ → TenantStates → Repository → Type 0
CanOpen tenant all repository =
    (is_tenant_name tenant ≡ true) × (held_of tenant all ≡ Idle repository)

-- Why no stream can be opened: the name is bad, or there is a stream already, running or dead.
abbrev pub stream_refusal : TenantState → Option ℕ
stream_refusal (Idle repository) = None
stream_refusal (Busy opened status) = Some (code_of service.StreamIsOpen)

abbrev pub open_refusal : List ℕ → TenantStates → Option ℕ
open_refusal tenant all =
    if is_tenant_name tenant then stream_refusal (held_of tenant all)
    else Some (code_of service.BadTenantName)

-- The Open was refused, and nothing was read or written.
pub record IsUnopened (digest : List ℕ → List ℕ) (tenant : List ℕ) (before after : TenantStates)
    (code : ℕ) (reader reader' writer writer' : Device) (answer : Result Unit StepFault)
    : Type 0 where
  pub answered : answer ≡ Err (fault.Refused code)
  pub unread : reader' ≡ reader
  pub unwritten : writer' ≡ writer
  pub taken : HasTakenCalls digest tenant before after (Open ∷ [])

-- ---- a piece

-- A tenant has a running stream, which was opened over this repository and fed these bytes.
abbrev pub IsStreaming : (List ℕ → List ℕ) → List ℕ → Repository → List ℕ → TenantStates → Type 0
IsStreaming digest tenant repository bytes all = (is_tenant_name tenant ≡ true)
    × Represents digest (Streaming repository bytes) (held_of tenant all)

-- What a piece prints after the bytes before it.
abbrev pub replies_to : (List ℕ → List ℕ) → Repository → List ℕ → List ℕ → List ℕ
replies_to digest repository bytes piece = added (stream_of digest repository bytes).replies
    (stream_of digest repository (bytes ++ piece)).replies

-- A piece was carried out, and its replies were written.
pub record Passes (digest : List ℕ → List ℕ) (tenant : List ℕ) (repository : Repository)
    (bytes piece : List ℕ) (writer : Device) (after : TenantStates)
    (writer' : Device) : Type 0 where
  pub streaming : IsStreaming digest tenant repository (bytes ++ piece) after
  pub written : Appends writer.known writer'.known (replies_to digest repository bytes piece)
  pub well : IsWell writer writer'

-- The stream was refused in this piece, and the replies before that were written.
pub record IsRefusedWith (digest : List ℕ → List ℕ) (repository : Repository)
    (bytes piece : List ℕ) (code : ℕ) (writer writer' : Device) : Type 0 where
  pub left : Repository
  pub refused : (stream_of digest repository (bytes ++ piece)).status ≡ Refused code left
  pub written : Appends writer.known writer'.known (replies_to digest repository bytes piece)
  pub well : IsWell writer writer'

-- A prefix of its replies was written.
abbrev pub IsWrittenFront : (List ℕ → List ℕ) → Repository → List ℕ → List ℕ → Device → Device
    → Type 0
IsWrittenFront digest repository bytes piece writer writer' =
    AppendsFront writer.known writer'.known (replies_to digest repository bytes piece)

-- What came of a piece, by the answer.
abbrev pub PassesOn : (List ℕ → List ℕ) → List ℕ → Repository → List ℕ → List ℕ → Device
    → Result Unit StepFault → TenantStates → Device → Type 0
PassesOn digest tenant repository bytes piece writer (Ok u) after writer' =
    Passes digest tenant repository bytes piece writer after writer'
PassesOn digest tenant repository bytes piece writer (Err (fault.Refused code)) after writer' =
    IsRefusedWith digest repository bytes piece code writer writer'
PassesOn digest tenant repository bytes piece writer (Err fault.Device) after writer' =
    IsWrittenFront digest repository bytes piece writer writer'
    × HasFault writer.faults writer'.faults
PassesOn digest tenant repository bytes piece writer (Err fault.Memory) after writer' =
    IsWrittenFront digest repository bytes piece writer writer' × IsWell writer writer'

-- ---- the end

-- The stream ended with this fault, or with none, and the reply of its end was written.
pub record IsEndWritten (digest : List ℕ → List ℕ) (repository : Repository) (bytes : List ℕ)
    (fault : Option ℕ) (writer writer' : Device) : Type 0 where
  pub ended : (end_in digest repository bytes).fault ≡ fault
  pub written : Appends writer.known writer'.known (end_in digest repository bytes).reply
  pub well : IsWell writer writer'

-- What came of the end, by the answer. If memory ran out, nothing was written for the end.
abbrev pub EndsImport : (List ℕ → List ℕ) → Repository → List ℕ → Device
    → Result Unit StepFault → Device → Type 0
EndsImport digest repository bytes writer (Ok u) writer' =
    IsEndWritten digest repository bytes None writer writer'
EndsImport digest repository bytes writer (Err (fault.Refused code)) writer' =
    IsEndWritten digest repository bytes (Some code) writer writer'
EndsImport digest repository bytes writer (Err fault.Device) writer' =
    AppendsFront writer.known writer'.known (end_in digest repository bytes).reply
    × HasFault writer.faults writer'.faults
EndsImport digest repository bytes writer (Err fault.Memory) writer' =
    Appends writer.known writer'.known [] × IsWell writer writer'

-- A stream that was refused, or ran out of memory, is ended. If a device failed, it is left as it
-- is.
abbrev pub GivesUp : (List ℕ → List ℕ) → List ℕ → TenantStates → TenantStates → StepFault → Type 0
GivesUp digest tenant before after (fault.Refused code) =
    HasTakenCalls digest tenant before after (End ∷ [])
GivesUp digest tenant before after fault.Device = after ≡ before
GivesUp digest tenant before after fault.Memory =
    HasTakenCalls digest tenant before after (End ∷ [])

-- ---- all pieces

-- All that counts was read, carried out and answered: the input ended, or `done` was read.
pub record IsReadThrough (digest : List ℕ → List ℕ) (tenant : List ℕ) (repository : Repository)
    (before : TenantStates) (reader reader' writer : Device) (after : TenantStates)
    (writer' : Device) : Type 0 where
  pub bytes : List ℕ
  pub fed : HasFed digest tenant before after false bytes
  pub read : HasRead reader reader' bytes
  pub asked : HasAsked reader reader' bytes
  pub written : Appends writer.known writer'.known (stream_of digest repository bytes).replies
  pub streaming : IsStreaming digest tenant repository bytes after
  pub last : IsAtEnd reader'.known ⊎ IsSettled digest repository bytes
  pub well : AreWell reader reader' writer writer'

-- The stream was fed, and not ended.
abbrev pub Fed : (List ℕ → List ℕ) → List ℕ → TenantStates → TenantStates → ServiceEffect
Fed digest tenant before after ended bytes = HasFed digest tenant before after false bytes

-- What came of reading, by the answer.
abbrev pub ReadsAll : (List ℕ → List ℕ) → List ℕ → Repository → TenantStates → Device → Device
    → Device → Result Unit StepFault → TenantStates → Device → Type 0
ReadsAll digest tenant repository before reader reader' writer (Ok u) after writer' =
    IsReadThrough digest tenant repository before reader reader' writer after writer'
ReadsAll digest tenant repository before reader reader' writer (Err fault.Device) after writer' =
    (g : IsGivenUp digest repository (Fed digest tenant before after) reader reader' writer writer')
    × (g.at_end ≡ false)
ReadsAll digest tenant repository before reader reader' writer (Err e) after writer' =
    ImportsInto digest repository (Fed digest tenant before after) reader reader' writer writer'
    (Err e)

-- Steps and requests of the operator that come as frames from a reader, and their answers to a
-- writer.
use Rattle.std.specs.Prelude.{◌≡◌, ◌≤◌, ℕ, Bool, true, not, List, [], ◌∷◌, ◌++◌, length, Result, Ok, Err, ◌⊎◌}
use Rattle.std.specs.List.{AllByRecursion, flat_map}
use Rattle.std.specs.Str.{bytes_eq}
use Rattle.std.specs.Io.KnownBytes.{Appends, IsAtEnd}
use Rattle.git_model.specs.Limits.{frames_limit}
use Rattle.git_objects.specs.Device.{Device, HasRead}
use Rattle.service_steps.specs.declared.frame_fault.FrameFault.{FrameFault}
use Rattle.service_steps.specs.declared.frame_fault.FrameFault.TheVariants as fault
use Rattle.service_steps.specs.declared.request.Request.{Request}
use Rattle.service_steps.specs.declared.request.Request.TheVariants as request
use Rattle.service_steps.specs.Frames.{answer_text}
use Rattle.service_steps.specs.Requests.{request_text, IsGoodRequest, IsUnfinishedRequest, IsCutOffRequest, IsBadRequest}
use Rattle.service_steps.specs.StepFrames.{begins_no_request, is_step}
use Rattle.tenant_service.specs.Headline.{Response, Run, IsIsolated}
use Rattle.tenant_service.specs.TenantState.{held_of}
use Rattle.gitpool.specs.Devices.{AreWell, HasReadFailed, HasWriteFailed, AppendsAsFar}
use Rattle.gitpool.specs.Requests.{Hosted, Takes}
use Rattle.gitpool.specs.Serving.{Serves}

-- A run of a host is the requests that were taken, each with what it was told.
abbrev pub HostRun : Type 0
HostRun = List (Request × Response)

-- Each request of a run leads to what the next one meets.
abbrev pub Leads : (List ℕ → List ℕ) → Hosted → HostRun → Hosted → Type 0
Leads digest before [] after = after ≡ before
Leads digest before (taken ∷ later) after = (between : Hosted)
    × Takes digest taken.0 before taken.1 between × Leads digest between later after

-- The steps of a run, in their order.
abbrev pub with_step : Request → Response → Run → Run
with_step (request.Step s) told later = (s, told) ∷ later
with_step _ told later = later

abbrev pub steps_in : HostRun → Run
steps_in [] = []
steps_in (taken ∷ later) = with_step taken.0 taken.1 (steps_in later)

-- A request of the operator concerns the tenant that it changes. A step, a Save and a Sizes do not.
abbrev pub spares : List ℕ → Request → Bool
spares tenant (request.Abandon given) = not (bytes_eq tenant given.now)
spares tenant (request.Remove given) = not (bytes_eq tenant given.now)
spares tenant (request.Compact given) = not (bytes_eq tenant given.now)
spares tenant (request.Copy from to) = not (bytes_eq tenant to.now)
spares tenant _ = true

-- No request of the operator changes this tenant.
abbrev pub IsSpared : List ℕ → HostRun → Type 0
IsSpared tenant run = AllByRecursion (λ taken. spares tenant taken.0 ≡ true) run

-- The frames of the requests of a run, and the frames of their answers.
abbrev pub requests_text : HostRun → List ℕ
requests_text run = flat_map (λ taken. request_text taken.0) run

abbrev pub told_text : HostRun → List ℕ
told_text run = flat_map (λ taken. answer_text taken.1.answer taken.1.reply) run

-- Good frames were read, and some bytes after them, and their requests were taken in turn. Every
-- tenant that no request of the operator changes was told, by the steps, what it is told in a
-- repository of its own. At most 2^32 requests were taken.
pub record TakesAll (digest : List ℕ → List ℕ) (before after : Hosted) (reader reader' : Device)
    : Type 0 where
  pub run : HostRun
  pub rest : List ℕ
  pub leads : Leads digest before run after
  pub own : (tenant : List ℕ) → IsSpared tenant run → IsIsolated digest tenant
      (held_of tenant before.tenants) (steps_in run) (held_of tenant after.tenants)
  pub good : AllByRecursion (λ taken. IsGoodRequest taken.0) run
  pub read : HasRead reader reader' (requests_text run ++ rest)
  pub bounded : length run ≤ frames_limit

-- A part of a run, from what the requests before it left to what the requests after it met. In it
-- every tenant that no request of the operator changes there is told, by the steps, what it is told
-- in a repository of its own.
pub record IsStretch (digest : List ℕ → List ℕ) (before after : Hosted)
    (first stretch last : HostRun) : Type 0 where
  pub begin : Hosted
  pub end : Hosted
  pub earlier : Leads digest before first begin
  pub leads : Leads digest begin stretch end
  pub later : Leads digest end last after
  pub own : (tenant : List ℕ) → IsSpared tenant stretch → IsIsolated digest tenant
      (held_of tenant begin.tenants) (steps_in stretch) (held_of tenant end.tenants)

-- Exactly one call failed; or none did, and as many frames came as one call of `host` takes.
abbrev pub IsHostToBlame : Device → Device → Device → Device → HostRun → Type 0
IsHostToBlame reader reader' writer writer' run =
    HasReadFailed reader reader' writer writer' ⊎ (HasWriteFailed reader reader' writer writer'
    ⊎ (AreWell reader reader' writer writer' × (length run ≡ frames_limit)))

-- All answers were written, and no call failed.
abbrev pub AreTold : Device → Device → Device → Device → HostRun → Type 0
AreTold reader reader' writer writer' run =
    Appends writer.known writer'.known (told_text run) × AreWell reader reader' writer writer'

-- What was written, by the answer: all answers; or, if a device failed, a prefix of them, and all
-- of them if no write failed.
abbrev pub WritesTold : Result Unit FrameFault → Device → Device → Device → Device → HostRun → Type 0
WritesTold (Err fault.Device) reader reader' writer writer' run =
    AppendsAsFar writer writer' (told_text run) × IsHostToBlame reader reader' writer writer' run
WritesTold _ reader reader' writer writer' run = AreTold reader reader' writer writer' run

-- What was read after the last good frame, by the answer: nothing, if the input ends there; a bad
-- frame, up to the byte that shows it; a frame that the end of the input cuts off; or a part of
-- one.
abbrev pub StopsHosting : Result Unit FrameFault → List ℕ → Device → Type 0
StopsHosting (Ok u) rest reader = (rest ≡ []) × IsAtEnd reader.known
StopsHosting (Err fault.BadFrame) rest reader = IsBadRequest rest
StopsHosting (Err fault.CutOff) rest reader = IsCutOffRequest rest × IsAtEnd reader.known
StopsHosting (Err fault.Device) rest reader = IsUnfinishedRequest rest
StopsHosting (Err fault.Memory) rest reader = IsUnfinishedRequest rest

-- What hosting did: it took the requests of a run, stopped reading after them, and wrote their
-- answers.
pub record Hosts (digest : List ℕ → List ℕ) (before after : Hosted)
    (reader reader' writer writer' : Device) (answer : Result Unit FrameFault) : Type 0 where
  pub taken : TakesAll digest before after reader reader'
  pub stopped : StopsHosting answer taken.rest reader'
  pub written : WritesTold answer reader reader' writer writer' taken.run

-- A run has steps alone, and what was read after it begins no frame of the operator.
pub record IsOfSteps (run : HostRun) (rest : List ℕ) : Type 0 where
  pub steps : AllByRecursion (λ taken. is_step taken.0 ≡ true) run
  pub later : begins_no_request rest ≡ true

-- It did what serving does with these frames, and the pool file is as it was.
pub record ServesAlone (digest : List ℕ → List ℕ) (before after : Hosted)
    (reader reader' writer writer' : Device) (answer : Result Unit FrameFault) : Type 0 where
  pub serves : Serves digest before.tenants after.tenants reader reader' writer writer' answer
  pub same_file : after.file ≡ before.file

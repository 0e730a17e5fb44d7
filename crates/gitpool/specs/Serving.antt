-- Steps of any tenants that come as frames from a reader, and their answers to a writer.
use Rattle.std.specs.Prelude.{◌≡◌, ◌≤◌, ℕ, List, [], ◌++◌, length, Result, Ok, Err, ◌⊎◌}
use Rattle.std.specs.List.{AllByRecursion, flat_map}
use Rattle.std.specs.Io.KnownBytes.{Appends, IsAtEnd}
use Rattle.git_model.specs.Limits.{frames_limit}
use Rattle.git_objects.specs.Device.{Device, HasRead}
use Rattle.service_steps.specs.declared.frame_fault.FrameFault.{FrameFault}
use Rattle.service_steps.specs.declared.frame_fault.FrameFault.TheVariants as fault
use Rattle.service_steps.specs.Frames.{frame_of, step_text, answer_text, IsGood, IsUnfinished, IsCutOff, IsBad}
use Rattle.tenant_service.specs.Headline.{Run, IsIsolated, IsRefused}
use Rattle.tenant_service.specs.TenantState.{TenantStates, held_of}
use Rattle.gitpool.specs.Devices.{AreWell, HasReadFailed, HasWriteFailed, AppendsAsFar}

-- The frames of the steps of a run, and the frames of their answers.
abbrev pub steps_text : Run → List ℕ
steps_text run = flat_map (λ taken. step_text taken.0) run

abbrev pub answers_text : Run → List ℕ
answers_text run = flat_map (λ taken. answer_text taken.1.answer taken.1.reply) run

-- Good frames were read, and some bytes after them, and their steps were taken in turn. Every
-- tenant was told what it is told in a repository of its own. At most 2^32 steps were taken.
pub record Served (digest : List ℕ → List ℕ) (before after : TenantStates) (reader reader' : Device)
    : Type 0 where
  pub run : Run
  pub rest : List ℕ
  pub own : (tenant : List ℕ)
      → IsIsolated digest tenant (held_of tenant before) run (held_of tenant after)
  pub bad_names : AllByRecursion IsRefused run
  pub good : AllByRecursion (λ taken. IsGood (frame_of taken.0)) run
  pub read : HasRead reader reader' (steps_text run ++ rest)
  pub bounded : length run ≤ frames_limit

-- Exactly one call failed; or none did, and as many frames came as one call of `serve` takes.
abbrev pub IsToBlame : Device → Device → Device → Device → Run → Type 0
IsToBlame reader reader' writer writer' run =
    HasReadFailed reader reader' writer writer' ⊎ (HasWriteFailed reader reader' writer writer'
    ⊎ (AreWell reader reader' writer writer' × (length run ≡ frames_limit)))

-- All answers were written, and no call failed.
abbrev pub AreAnswered : Device → Device → Device → Device → Run → Type 0
AreAnswered reader reader' writer writer' run =
    Appends writer.known writer'.known (answers_text run) × AreWell reader reader' writer writer'

-- What was written, by the answer: all answers; or, if a device failed, a prefix of them, and all
-- of them if no write failed.
abbrev pub WritesAnswers : Result Unit FrameFault → Device → Device → Device → Device → Run → Type 0
WritesAnswers (Err fault.Device) reader reader' writer writer' run =
    AppendsAsFar writer writer' (answers_text run) × IsToBlame reader reader' writer writer' run
WritesAnswers _ reader reader' writer writer' run = AreAnswered reader reader' writer writer' run

-- What was read after the last good frame, by the answer: nothing, if the input ends there; a bad
-- frame, up to the byte that shows it; a frame that the end of the input cuts off; or a part of
-- one.
abbrev pub StopsReading : Result Unit FrameFault → List ℕ → Device → Type 0
StopsReading (Ok u) rest reader = (rest ≡ []) × IsAtEnd reader.known
StopsReading (Err fault.BadFrame) rest reader = IsBad rest
StopsReading (Err fault.CutOff) rest reader = IsCutOff rest × IsAtEnd reader.known
StopsReading (Err fault.Device) rest reader = IsUnfinished rest
StopsReading (Err fault.Memory) rest reader = IsUnfinished rest

-- What serving did: it took the steps of a run, stopped reading after them, and wrote their
-- answers.
pub record Serves (digest : List ℕ → List ℕ) (before after : TenantStates)
    (reader reader' writer writer' : Device) (answer : Result Unit FrameFault) : Type 0 where
  pub served : Served digest before after reader reader'
  pub stopped : StopsReading answer served.rest reader'
  pub written : WritesAnswers answer reader reader' writer writer' served.run

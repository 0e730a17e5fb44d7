-- One query of a tenant: an Ask of a service, and its reply to a writer.
use Rattle.std.specs.Prelude.{◌≡◌, ℕ, List, [], ◌∷◌, Result, Ok, Err}
use Rattle.std.specs.Io.KnownBytes.{Appends}
use Rattle.git_objects.specs.Device.{Device, HasFault, IsWell, AppendsFront}
use Rattle.service_steps.specs.declared.answer.Answer.{Answer}
use Rattle.service_steps.specs.declared.answer.Answer.TheVariants as answer
use Rattle.service_steps.specs.declared.step.Step.{Step}
use Rattle.tenant_service.specs.Alone.{Ask}
use Rattle.tenant_service.specs.Copying.{IsCall}
use Rattle.tenant_service.specs.Headline.{IsIsolated}
use Rattle.tenant_service.specs.TenantState.{TenantStates, held_of}
use Rattle.gitpool.specs.declared.step_fault.StepFault.{StepFault}
use Rattle.gitpool.specs.declared.step_fault.StepFault.TheVariants as fault
use Rattle.gitpool.specs.StepFaults.{as_result}

-- The service took one step: this query of this tenant, which got this answer and this reply. Every
-- tenant was told what it is told in a repository of its own.
pub record IsAsked (digest : List ℕ → List ℕ) (tenant query : List ℕ) (before after : TenantStates)
    (answer : Answer) (reply : List ℕ) : Type 0 where
  pub step : Step
  pub is : IsCall tenant (Ask query) step
  pub own : (name : List ℕ) → IsIsolated digest name (held_of name before)
      ((step, record { answer = answer; reply = reply }) ∷ []) (held_of name after)

-- The result of asking is the answer of the step; or the query was answered, and a write failed.
abbrev pub IsResultOf : Answer → Result Unit StepFault → Type 0
IsResultOf told (Err fault.Device) = told ≡ answer.Ok
IsResultOf told result = as_result told ≡ result

-- What was written, by the result: exactly the reply, or a prefix of it if a write failed. If the
-- query was refused, or memory ran out, there is no reply, and the writer is as it was.
abbrev pub WritesReply : Result Unit StepFault → List ℕ → Device → Device → Type 0
WritesReply (Ok u) reply writer writer' =
    Appends writer.known writer'.known reply × IsWell writer writer'
WritesReply (Err fault.Device) reply writer writer' =
    AppendsFront writer.known writer'.known reply × HasFault writer.faults writer'.faults
WritesReply (Err refusal) reply writer writer' = (reply ≡ []) × (writer' ≡ writer)

-- What asking did: the service answered the query, and the reply was written.
pub record Asks (digest : List ℕ → List ℕ) (tenant query : List ℕ) (before after : TenantStates)
    (writer writer' : Device) (result : Result Unit StepFault) : Type 0 where
  pub answer : Answer
  pub reply : List ℕ
  pub asked : IsAsked digest tenant query before after answer reply
  pub told : IsResultOf answer result
  pub written : WritesReply result reply writer writer'

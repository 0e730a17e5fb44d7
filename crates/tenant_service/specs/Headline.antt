-- Runs of many tenants, and what one of them meets.
use Rattle.std.specs.Prelude.{◌≡◌, ℕ, Bool, true, false, ◌&&◌, not, List, [], ◌∷◌, length, drop, map, filter, Option, None, Some}
use Rattle.std.specs.List.{zip}
use Rattle.std.specs.Str.{bytes_eq}
use Rattle.tenant_refs.specs.TenantName.{is_tenant_name}
use Rattle.service_steps.specs.declared.answer.Answer.{Answer}
use Rattle.service_steps.specs.declared.answer.Answer.TheVariants as answer
use Rattle.service_steps.specs.declared.reply.Reply.{Reply}
use Rattle.service_steps.specs.declared.step.Step.{Step}
use Rattle.service_steps.specs.declared.step.Step.TheVariants as step
use Rattle.tenant_service.specs.Alone.{Call, Open, Feed, End, Ask, Restart, StepResult, State, added, run_alone}
use Rattle.tenant_service.specs.TenantState.{TenantState, Represents}

-- What a step was told: an answer, and the bytes of the reply.
pub record Response : Type 0 where
  pub answer : Answer
  pub reply : List ℕ

abbrev pub response_of : {S : Type 0} → StepResult S → Response
response_of t = record { answer = t.answer; reply = t.reply }

-- What a call told that answered so and appended so much.
abbrev pub response_in : Answer → List ℕ → List ℕ → Response
response_in answer before after = record { answer = answer; reply = added before after }

-- A tenant is named by its own name alone, and by no bad one.
abbrev pub names : List ℕ → List ℕ → Bool
names tenant given = is_tenant_name given && bytes_eq given tenant

-- A step concerns the tenant that it names; a restart concerns all.
unfoldable pub concerns : List ℕ → Step → Bool
concerns tenant (step.Open given) = names tenant given.now
concerns tenant (step.Feed given bytes) = names tenant given.now
concerns tenant (step.End given) = names tenant given.now
concerns tenant (step.Ask given query) = names tenant given.now
concerns tenant step.Restart = true

-- A step without its tenant.
abbrev pub call_of : Step → Call
call_of (step.Open given) = Open
call_of (step.Feed given bytes) = Feed bytes.now
call_of (step.End given) = End
call_of (step.Ask given query) = Ask query.now
call_of step.Restart = Restart

-- If a call ran out of memory, its answer says so, with the number of items before that.
abbrev pub stop_told : Answer → Option ℕ
stop_told answer.Ok = None
stop_told (answer.Fault code) = None
stop_told (answer.Memory count) = Some count

-- A run is the steps that were taken, each with what it was told.
abbrev pub Run : Type 0
Run = List (Step × Response)

-- The part of a run that concerns a tenant.
abbrev pub part_of : List ℕ → Run → Run
part_of tenant run = filter (λ taken. concerns tenant taken.0) run

-- A tenant's own steps: what it asked, the restarts among it, each with its own stop.
abbrev pub steps_of : List ℕ → Run → List (Call × Option ℕ)
steps_of tenant run =
    map (λ taken. (call_of taken.0, stop_told taken.1.answer)) (part_of tenant run)

-- What a tenant was told.
abbrev pub told_to : List ℕ → Run → List Response
told_to tenant run = map (λ taken. taken.1) (part_of tenant run)

-- What is told to these steps in a repository of its own, and what they leave.
unfoldable pub told_alone : (List ℕ → List ℕ) → State → List (Call × Option ℕ) → List Response
told_alone digest state [] = []
told_alone digest state (own ∷ later) =
    let t = run_alone digest own.0 own.1 state in response_of t ∷ told_alone digest t.state later

unfoldable pub left_alone : (List ℕ → List ℕ) → State → List (Call × Option ℕ) → State
left_alone digest state [] = state
left_alone digest state (own ∷ later) =
    left_alone digest (run_alone digest own.0 own.1 state).state later

-- The headline, for one tenant: whatever repository and stream of its own led to what is held of it
-- before the run, it was told what it is told alone, given only its own steps; and that repository
-- and stream afterwards lead to what is held of it after the run.
pub record IsIsolated (digest : List ℕ → List ℕ) (tenant : List ℕ) (before : TenantState)
    (run : Run) (after : TenantState) : Type 0 where
  pub told : (state : State) → Represents digest state before
      → told_to tenant run ≡ told_alone digest state (steps_of tenant run)
  pub left : (state : State) → Represents digest state before
      → Represents digest (left_alone digest state (steps_of tenant run)) after

-- A step with a bad tenant name belongs to nobody. It is refused, and prints nothing.
abbrev pub has_bad_name : Step → Bool
has_bad_name (step.Open given) = not (is_tenant_name given.now)
has_bad_name (step.Feed given bytes) = not (is_tenant_name given.now)
has_bad_name (step.End given) = not (is_tenant_name given.now)
has_bad_name (step.Ask given query) = not (is_tenant_name given.now)
has_bad_name step.Restart = false

abbrev pub IsRefused : Step × Response → Type 0
IsRefused taken =
    has_bad_name taken.0 ≡ true → taken.1 ≡ record { answer = answer.Fault 32; reply = [] }

-- What replies told, in turn: those that were appended to others.
abbrev pub told_by_reply : Reply → Response
told_by_reply reply = record { answer = reply.answer; reply = reply.bytes.items }

abbrev pub told_since : List Reply → List Reply → List Response
told_since before all = map told_by_reply (drop (length before) all)

-- The steps that were taken, each with what it was told: as many as there are replies.
abbrev pub run_of : List Step → List Response → Run
run_of steps told = zip steps told

-- What each call does to what is held of a tenant. The service has the repository at Open, but not
-- the bytes since.
use Rattle.std.specs.Prelude.{ℕ, false, List, [], Option, None, Some}
use Rattle.git_model.specs.Repository.{Repository}
use Rattle.stream_lex.specs.Items.{Tail, Rest}
use Rattle.stream_lex.specs.Running.{more_of}
use Rattle.stream_commands.specs.Workspace.{opened as workspace_on}
use Rattle.import_session.specs.Stream.{Running, StreamStatus, Runs, Refused, Outcome, begun}
use Rattle.tenant_stream.specs.Carrying.{outcome_after}
use Rattle.service_steps.specs.declared.answer.Answer.{Answer}
use Rattle.service_steps.specs.declared.answer.Answer.TheVariants as answer
use Rattle.service_steps.specs.declared.fault.ServiceFault.TheVariants as fault
use Rattle.tenant_service.specs.Alone.{Call, Open, Feed, End, Ask, Restart, StepResult, step_result, refused_under, refused_by, unless_out_of_memory, out_of_memory, Stopped, stop_after, ended, closed, asked}
use Rattle.tenant_service.specs.TenantState.{TenantState, Idle, Busy}
use Rattle.tenant_service.specs.HeldObjects.{last_held}

-- What a stream answers to more bytes: it prints their replies, and stands as they leave it.
abbrev pub standing_answer : StreamStatus → Answer
standing_answer (Runs now tail) = answer.Ok
standing_answer (Refused code repository) = answer.Fault code

abbrev pub gone_on : Repository → Outcome → StepResult TenantState
gone_on opened later =
    step_result (standing_answer later.status) later.replies (Busy opened later.status)

-- If there is a stop after so many of the items, the stream is dead.
abbrev pub held_until : Repository → ℕ → Option Stopped → StepResult TenantState
    → StepResult TenantState
held_until opened count (Some stopped) well =
    step_result (answer.Memory count) stopped.replies
    (Busy opened (Refused out_of_memory stopped.repository))
held_until opened count None well = well

-- What the stream was opened on stays.
abbrev pub fed_held : (List ℕ → List ℕ) → List ℕ → Option ℕ → Repository → Running → Tail
    → StepResult TenantState
fed_held digest piece None opened now tail =
    gone_on opened (outcome_after digest now tail piece)
fed_held digest piece (Some count) opened now tail =
    held_until opened count (stop_after digest now (more_of tail piece).items count)
    (gone_on opened (outcome_after digest now tail piece))

-- What each call does to what is held.
abbrev pub open_held : Option ℕ → TenantState → StepResult TenantState
open_held stop (Idle repository) =
    unless_out_of_memory stop (Idle repository)
    (step_result answer.Ok []
    (Busy repository (Runs (begun (workspace_on repository)) (Rest false []))))
open_held stop (Busy opened status) = refused_by fault.StreamIsOpen (Busy opened status)

abbrev pub feed_held : (List ℕ → List ℕ) → List ℕ → Option ℕ → TenantState → StepResult TenantState
feed_held digest piece stop (Idle repository) = refused_by fault.NoStream (Idle repository)
feed_held digest piece stop (Busy opened (Runs now tail)) =
    fed_held digest piece stop opened now tail
feed_held digest piece stop (Busy opened (Refused code repository)) =
    refused_under code (Busy opened (Refused code repository))

abbrev pub end_held : (List ℕ → List ℕ) → Option ℕ → TenantState → StepResult TenantState
end_held digest stop (Idle repository) = refused_by fault.NoStream (Idle repository)
end_held digest stop (Busy opened status) = closed Idle (ended digest stop status)

abbrev pub step_held : (List ℕ → List ℕ) → Call → Option ℕ → TenantState → StepResult TenantState
step_held digest Open stop held = open_held stop held
step_held digest (Feed piece) stop held = feed_held digest piece stop held
step_held digest End stop held = end_held digest stop held
step_held digest (Ask query) stop held = asked query stop (last_held held) held
step_held digest Restart stop held = step_result answer.Ok [] (Idle (last_held held))

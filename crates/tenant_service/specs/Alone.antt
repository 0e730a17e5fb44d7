-- A repository of its own: what a tenant is told and what it has, as if nobody else were there.
use Rattle.std.specs.Prelude.{ℕ, zero, ◌+◌, false, nat_le, if◌then◌else◌, List, [], ◌++◌, length, take, drop, Option, None, Some, Result, Ok, Err}
use Rattle.git_model.specs.Repository.{Repository}
use Rattle.stream_lex.specs.Items.{Item, Rest}
use Rattle.stream_lex.specs.Reading.{reading}
use Rattle.stream_commands.specs.Workspace.{opened}
use Rattle.import_session.specs.Stream.{Running, StreamStatus, Runs, Refused, Outcome, begun, carried, last_checkpoint, finished}
use Rattle.answers.specs.declared.fault.Fault.{Fault}
use Rattle.answers.specs.Faults.{code_of}
use Rattle.answers.specs.Answers.{answer_to}
use Rattle.service_steps.specs.declared.answer.Answer.{Answer}
use Rattle.service_steps.specs.declared.answer.Answer.TheVariants as answer
use Rattle.service_steps.specs.declared.fault.ServiceFault.{ServiceFault}
use Rattle.service_steps.specs.declared.fault.ServiceFault.TheVariants as fault
use Rattle.service_steps.specs.Faults.{code_of as service_code}

-- What a tenant may ask: git-fast-import(1) for Open, Feed and End, gitrevisions(7) for Ask.
pub data Call : Type 0 where
  Open : Call
  Feed : List ℕ → Call
  End : Call
  Ask : List ℕ → Call
  Restart : Call

-- A tenant has a repository and no stream; or a stream, with the repository at its Open and all
-- bytes since; or a stream that is dead under a number, and the repository at its last checkpoint.
pub data State : Type 0 where
  Closed : Repository → State
  Streaming : Repository → List ℕ → State
  Dead : ℕ → Repository → State

-- The answer to a call, the bytes of its reply, and what it leaves.
pub record StepResult (S : Type 0) : Type 0 where
  pub answer : Answer
  pub reply : List ℕ
  pub state : S

abbrev pub step_result : {S : Type 0} → Answer → List ℕ → S → StepResult S
step_result answer reply state = record { answer = answer; reply = reply; state = state }

-- A call that is refused changes nothing.
abbrev pub refused_under : {S : Type 0} → ℕ → S → StepResult S
refused_under code state = step_result (answer.Fault code) [] state

-- So does a call that the service itself refuses.
abbrev pub refused_by : {S : Type 0} → ServiceFault → S → StepResult S
refused_by refusal state = refused_under (service_code refusal) state

-- A call that needs memory may run out of it, and then leaves `left`. No other call may.
abbrev pub unless_out_of_memory : {S : Type 0} → Option ℕ → S → StepResult S → StepResult S
unless_out_of_memory (Some zero) left well = step_result (answer.Memory 0) [] left
unless_out_of_memory _ left well = well

-- The stream of all bytes since Open.
unfoldable pub stream_of : (List ℕ → List ℕ) → Repository → List ℕ → Outcome
stream_of digest repository bytes =
    let all = reading false bytes in
    carried digest (begun (opened repository)) all.items all.tail

-- The repository at the last checkpoint.
abbrev pub last_of : StreamStatus → Repository
last_of (Runs now tail) = last_checkpoint now.workspace
last_of (Refused code repository) = repository

-- What all replies add to the replies before.
abbrev pub added : List ℕ → List ℕ → List ℕ
added before all = drop (length before) all

-- A stop because memory ran out: the replies until then, and the repository at the last checkpoint.
pub record Stopped : Type 0 where
  pub replies : List ℕ
  pub repository : Repository

abbrev pub stop_at : List ℕ → StreamStatus → Option Stopped
stop_at replies (Runs now tail) =
    if now.is_done then None
    else Some (record { replies = replies; repository = last_checkpoint now.workspace })
stop_at replies (Refused code repository) = None

-- The stop after the first `count` items: what they print, and the last checkpoint then. There is
-- no stop if there are fewer items, after a fault, or after `done`.
unfoldable pub stop_after : (List ℕ → List ℕ) → Running → List Item → ℕ → Option Stopped
stop_after digest now items count =
    if nat_le count (length items) then
    (let first = carried digest now (take count items) (Rest false []) in
    stop_at first.replies first.status)
    else None

-- Open starts a stream, which has no bytes yet. It is refused if there is one, even a dead one.
abbrev pub open_alone : Option ℕ → State → StepResult State
open_alone stop (Closed repository) =
    unless_out_of_memory stop (Closed repository)
    (step_result answer.Ok [] (Streaming repository []))
open_alone stop state = refused_by fault.StreamIsOpen state

-- Feed prints what all bytes print beyond what was printed before. A fault in them makes the stream
-- dead under the fault's number.
abbrev pub fed_by : Repository → List ℕ → List ℕ → StreamStatus → StepResult State
fed_by repository bytes reply (Runs now tail) =
    step_result answer.Ok reply (Streaming repository bytes)
fed_by repository bytes reply (Refused code left) =
    step_result (answer.Fault code) reply (Dead code left)

abbrev pub fed_well : (List ℕ → List ℕ) → Repository → List ℕ → List ℕ → StepResult State
fed_well digest repository bytes piece =
    let before = stream_of digest repository bytes in
    let all = stream_of digest repository (bytes ++ piece) in
    fed_by repository (bytes ++ piece) (added before.replies all.replies) all.status

-- The stop of a Feed after `count` of the items that it completes.
abbrev pub feed_stop : (List ℕ → List ℕ) → Repository → List ℕ → List ℕ → ℕ → Option Stopped
feed_stop digest repository bytes piece count =
    let before = (reading false bytes).items in
    let all = (reading false (bytes ++ piece)).items in
    stop_after digest (begun (opened repository)) all (length before + count)

-- The number of a stream that is dead because memory ran out.
abbrev pub out_of_memory : ℕ
out_of_memory = 90

-- If there is such a stop, the stream is dead.
abbrev pub fed_until : List ℕ → ℕ → Option Stopped → StepResult State → StepResult State
fed_until before count (Some stopped) well =
    step_result (answer.Memory count) (added before stopped.replies)
    (Dead out_of_memory stopped.repository)
fed_until before count None well = well

abbrev pub fed : (List ℕ → List ℕ) → Option ℕ → Repository → List ℕ → List ℕ → StepResult State
fed digest None repository bytes piece = fed_well digest repository bytes piece
fed digest (Some count) repository bytes piece =
    fed_until (stream_of digest repository bytes).replies count
    (feed_stop digest repository bytes piece count) (fed_well digest repository bytes piece)

abbrev pub feed_alone : (List ℕ → List ℕ) → List ℕ → Option ℕ → State → StepResult State
feed_alone digest piece stop (Closed repository) = refused_by fault.NoStream (Closed repository)
feed_alone digest piece stop (Streaming repository bytes) = fed digest stop repository bytes piece
feed_alone digest piece stop (Dead code repository) = refused_under code (Dead code repository)

-- End closes the stream, answers the fault of its end, and prints the reply of its end.
abbrev pub end_answer : Option ℕ → Answer
end_answer None = answer.Ok
end_answer (Some code) = answer.Fault code

abbrev pub ended_well : (List ℕ → List ℕ) → StreamStatus → StepResult Repository
ended_well digest status =
    let end = finished digest status in
    step_result (end_answer end.fault) end.reply end.repository

-- After `done`, and after a refusal, an end needs no memory.
abbrev pub ended : (List ℕ → List ℕ) → Option ℕ → StreamStatus → StepResult Repository
ended digest stop (Refused code repository) = ended_well digest (Refused code repository)
ended digest stop (Runs now tail) =
    if now.is_done then ended_well digest (Runs now tail)
    else unless_out_of_memory stop (last_checkpoint now.workspace)
    (ended_well digest (Runs now tail))

abbrev pub closed : {S : Type 0} → (Repository → S) → StepResult Repository → StepResult S
closed close t = step_result t.answer t.reply (close t.state)

abbrev pub end_alone : (List ℕ → List ℕ) → Option ℕ → State → StepResult State
end_alone digest stop (Closed repository) = refused_by fault.NoStream (Closed repository)
end_alone digest stop (Streaming repository bytes) =
    closed Closed (ended digest stop (stream_of digest repository bytes).status)
end_alone digest stop (Dead code repository) =
    closed Closed (ended digest stop (Refused code repository))

-- Restart closes the stream, and leaves the repository at the last checkpoint.
abbrev pub last_alone : (List ℕ → List ℕ) → State → Repository
last_alone digest (Closed repository) = repository
last_alone digest (Streaming repository bytes) =
    last_of (stream_of digest repository bytes).status
last_alone digest (Dead code repository) = repository

-- Ask answers from the repository at the last checkpoint, and changes nothing.
abbrev pub answered : {S : Type 0} → Result (List ℕ) Fault → S → StepResult S
answered (Ok text) state = step_result answer.Ok text state
answered (Err refusal) state = refused_under (code_of refusal) state

abbrev pub asked : {S : Type 0} → List ℕ → Option ℕ → Repository → S → StepResult S
asked query stop repository state =
    unless_out_of_memory stop state (answered (answer_to repository query) state)

-- What a call is answered and what it leaves, in a repository of its own, given whether the call
-- ran out of memory, and after how many items.
abbrev pub run_alone : (List ℕ → List ℕ) → Call → Option ℕ → State → StepResult State
run_alone digest Open stop state = open_alone stop state
run_alone digest (Feed piece) stop state = feed_alone digest piece stop state
run_alone digest End stop state = end_alone digest stop state
run_alone digest (Ask query) stop state = asked query stop (last_alone digest state) state
run_alone digest Restart stop state = step_result answer.Ok [] (Closed (last_alone digest state))

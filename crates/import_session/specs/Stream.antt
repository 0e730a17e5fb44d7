-- A stream from its first byte to its end: git-fast-import(1).
use Rattle.std.specs.Prelude.{ℕ, Bool, true, false, if◌then◌else◌, List, [], ◌∷◌, ◌++◌, take, Option, None, Some, Result, Ok, Err}
use Rattle.git_model.specs.Repository.{Repository}
use Rattle.stream_lex.specs.Items.{Item, Tail, Rest, Failed}
use Rattle.stream_lex.specs.Faults.{code_of as item_code}
use Rattle.stream_grammar.specs.declared.act.ControlCommand.TheVariants as control
use Rattle.stream_grammar.specs.Acts.{Act, Control}
use Rattle.stream_grammar.specs.Commands.{Parsing, top, done_by, after, end_of}
use Rattle.stream_parts.specs.declared.fault.Fault.{Fault}
use Rattle.stream_parts.specs.declared.fault.Fault.TheVariants as fault
use Rattle.git_model.specs.Results.{and_then}
use Rattle.stream_parts.specs.Faults.{code_of, text_first}
use Rattle.stream_commands.specs.Workspace.{Workspace, Effect, quiet}
use Rattle.stream_commands.specs.Checkpoints.{checkpoint}
use Rattle.import_session.specs.Commits.{closed_where}
use Rattle.import_session.specs.Meaning.{after_act}

-- A running stream: its workspace, the command that is not complete, and whether `done` was read.
pub record Running : Type 0 where
  pub workspace : Workspace
  pub parsing : Parsing
  pub is_done : Bool

-- A stream before its first item.
abbrev pub begun : Workspace → Running
begun workspace = record { workspace = workspace; parsing = Ok top; is_done = false }

-- What an item leaves of a running stream, and what it prints.
pub record Step : Type 0 where
  pub running : Running
  pub reply : List ℕ

-- Whether an act is 'done'.
abbrev pub is_finish : Act → Bool
is_finish (Control control.Done) = true
is_finish _ = false

-- What the act of an item leaves of a running stream.
abbrev pub after_item : Running → Item → Act → Effect → Step
after_item now item act effect = record {
  running = record {
    workspace = effect.workspace;
    parsing = after now.parsing item;
    is_done = is_finish act;
  };
  reply = effect.reply;
}

-- The text of an item is judged first. Then the open commit ends, if the item ends it. Then its act
-- is carried out.
abbrev pub taken : (List ℕ → List ℕ) → Running → Item → Result Step Fault
taken digest now item =
    and_then (text_first (done_by now.parsing item)) (λ done.
    and_then (closed_where digest done.ends_commit now.workspace) (λ workspace.
    and_then (after_act digest done.act workspace) (λ effect.
    Ok (after_item now item done.act effect))))

-- After `done` an item is ignored.
unfoldable pub step : (List ℕ → List ℕ) → Running → Item → Result Step Fault
step digest now item =
    if now.is_done then Ok (record { running = now; reply = [] }) else taken digest now item

-- The repository at the last checkpoint.
abbrev pub last_checkpoint : Workspace → Repository
last_checkpoint workspace = record {
  objects = take workspace.committed workspace.objects;
  refs = workspace.refs;
}

-- The status of a stream. Either it runs, and a tail of bytes follows its items; or it was refused
-- under a number, and only the repository at the last checkpoint is left.
pub data StreamStatus : Type 0 where
  Runs : Running → Tail → StreamStatus
  Refused : ℕ → Repository → StreamStatus

-- What a stream printed so far, and its status.
pub record Outcome : Type 0 where
  pub replies : List ℕ
  pub status : StreamStatus

-- A reply comes before what comes later.
abbrev pub after_reply : List ℕ → Outcome → Outcome
after_reply reply later = record { replies = reply ++ later.replies; status = later.status }

-- A refused stream prints nothing more, and the repository is that of the last checkpoint.
abbrev pub refused : ℕ → Workspace → Outcome
refused code workspace =
    record { replies = []; status = Refused code (last_checkpoint workspace) }

-- A fault of the bytes refuses the stream.
abbrev pub tail_outcome : Running → Tail → Outcome
tail_outcome now (Rest skips bytes) =
    record { replies = []; status = Runs now (Rest skips bytes) }
tail_outcome now (Failed fault) = refused (item_code fault) now.workspace

-- After `done` bytes are ignored, and none are kept.
unfoldable pub at_tail : Running → Tail → Outcome
at_tail now tail =
    if now.is_done then record { replies = []; status = Runs now (Rest false []) }
    else tail_outcome now tail

-- After a step its reply is printed, and the stream goes on; after a fault it is refused.
abbrev pub going_on : Running → Result Step Fault → (Running → Outcome) → Outcome
going_on now (Ok step) later = after_reply step.reply (later step.running)
going_on now (Err fault) later = refused (code_of fault) now.workspace

-- The items of a stream are carried out in turn, up to the first that is refused.
unfoldable pub carried : (List ℕ → List ℕ) → Running → List Item → Tail → Outcome
carried digest now [] tail = at_tail now tail
carried digest now (item ∷ items) tail =
    going_on now (step digest now item) (λ next. carried digest next items tail)

-- How a stream ended: well, or refused under a number; what its end printed; and the repository
-- that is left.
pub record End : Type 0 where
  pub fault : Option ℕ
  pub reply : List ℕ
  pub repository : Repository

-- A stream that ends well prints its last reply, and the repository is that of its checkpoint.
abbrev pub ended_well : List ℕ → Workspace → End
ended_well reply workspace =
    record { fault = None; reply = reply; repository = last_checkpoint workspace }

-- An end that is refused prints nothing.
abbrev pub ended_by : ℕ → Repository → End
ended_by code repository = record { fault = Some code; reply = []; repository = repository }

-- The end of the commands. It is refused if a part of a command is missing, and then if `done` is.
-- Otherwise the open commit ends, if there is one, and the end is a checkpoint.
abbrev pub unless_done_missing : Workspace → Result Unit Fault
unless_done_missing workspace =
    if workspace.stream.needs_done then Err fault.DoneMissing else Ok tt

-- At the end of the bytes no item may wait for more, 'done' must not be missing, the open commit
-- ends, and there is a last checkpoint.
abbrev pub commands_end : (List ℕ → List ℕ) → Running → Result Effect Fault
commands_end digest now =
    and_then (text_first (end_of now.parsing)) (λ ends_commit.
    and_then (unless_done_missing now.workspace) (λ _.
    and_then (closed_where digest ends_commit now.workspace) checkpoint))

-- After `done` nothing is required, and nothing is printed.
unfoldable pub session_end : (List ℕ → List ℕ) → Running → Result Effect Fault
session_end digest now =
    if now.is_done then quiet now.workspace else commands_end digest now

-- The end of a stream, by what its last commands have left.
abbrev pub end_left : Workspace → Result Effect Fault → End
end_left workspace (Ok effect) = ended_well effect.reply effect.workspace
end_left workspace (Err fault) = ended_by (code_of fault) (last_checkpoint workspace)

-- The end of the bytes. None may be left over.
abbrev pub bytes_end : (List ℕ → List ℕ) → Running → List ℕ → End
bytes_end digest now [] = end_left now.workspace (session_end digest now)
bytes_end digest now (byte ∷ bytes) = ended_by 6 (last_checkpoint now.workspace)

-- The end of a stream that is running: the rest of its bytes ends, or the fault of its last item is
-- told.
abbrev pub running_end : (List ℕ → List ℕ) → Running → Tail → End
running_end digest now (Rest skips bytes) = bytes_end digest now bytes
running_end digest now (Failed fault) = ended_by (item_code fault) (last_checkpoint now.workspace)

-- The end of a stream. After `done` no bytes are left over.
abbrev pub finished : (List ℕ → List ℕ) → StreamStatus → End
finished digest (Refused code repository) = ended_by code repository
finished digest (Runs now tail) =
    if now.is_done then ended_well [] now.workspace else running_end digest now tail

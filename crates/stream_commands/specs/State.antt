-- The state of a running stream: what it has of its own, which is neither in a table, nor in a pool,
-- nor among refs; and the workspace that it is part of.
use Rattle.std.specs.Prelude.{◌≡◌, ◌≢◌, ℕ, List, [], ◌++◌, take, Result, Ok, Err}
use Rattle.git_model.specs.RefStore.{RefStore}
use Rattle.git_model.specs.Repository.{Object}
use Rattle.content_pool.specs.Pool.{Cells}
use Rattle.tenant_tables.specs.Objects.{objects}
use Rattle.tenant_tables.specs.View.{View}
use Rattle.stream_parts.specs.declared.fault.Fault.{Fault}
use Rattle.stream_parts.specs.declared.fault.Fault.TheVariants as fault
use Rattle.stream_commands.specs.declared.open_command.OpenCommand.{OpenCommand as LentCommand}
use Rattle.stream_commands.specs.declared.open_command.OpenCommand.TheVariants as lent
use Rattle.stream_commands.specs.declared.state.StreamState.{StreamState as LentStreamState}
use Rattle.kept_files.specs.declared.kept_files.KeptCommit.{KeptCommit}
use Rattle.open_commits.specs.OpenCommit.{HeldCommit, commit_held, open_commit_in}
use Rattle.revisions.specs.declared.tag_ends.ChainCache.{ChainCache}
use Rattle.stream_parts.specs.Marks.{Marks}
use Rattle.stream_parts.specs.Branches.{Branches}
use Rattle.stream_parts.specs.OpenCommand.{OpenCommand, Nothing, Commit, Tag, Reset, Changes, Inline}
use Rattle.stream_parts.specs.StreamOf.{StreamOf, new_stream, stream_with}
use Rattle.stream_commands.specs.Workspace.{Workspace, Effect}

-- What a stream has of its own apart from its objects. The files of the open commit are held as a
-- branch, and so are the files of the last commits that ended. The chain has what is kept of walks
-- along first parents and along tags.
pub record StreamState : Type 0 where
  pub stream : StreamOf HeldCommit
  pub kept : List KeptCommit
  pub chain : ChainCache

-- The open command, apart from where it is in memory.
abbrev pub command_shown : LentCommand → OpenCommand HeldCommit
command_shown lent.Nothing = Nothing
command_shown (lent.Commit header) = Commit header
command_shown (lent.Tag header) = Tag header
command_shown (lent.Reset ref) = Reset ref
command_shown (lent.Changes commit) = Changes (commit_held commit)
command_shown (lent.Inline commit file) = Inline (commit_held commit) file

-- The same of all that the stream has.
abbrev pub stream_shown : LentStreamState → StreamOf HeldCommit
stream_shown state = record {
  marks = state.marks.entries;
  branches = state.branches;
  tags = state.tags.items;
  command = command_shown state.command;
  head = state.head;
  forces = state.forces;
  needs_done = state.needs_done;
}

-- The state of a stream.
abbrev pub state_shown : LentStreamState → StreamState
state_shown state = record { stream = stream_shown state; kept = state.kept; chain = state.chain }

-- The state before the first item.
abbrev pub empty_state : StreamState
empty_state = record { stream = new_stream; kept = []; chain = record { first_parents = []; tags = [] } }

-- The same state with this command open.
abbrev pub state_with : StreamState → OpenCommand HeldCommit → StreamState
state_with state command =
    record state { stream = record state.stream { command = command } }

-- The same state with these branches, and with these marks.
abbrev pub branched : StreamState → Branches → StreamState
branched state branches =
    record state { stream = record state.stream { branches = branches } }

-- The state with these marks.
abbrev pub marked : StreamState → Marks → StreamState
marked state marks = record state { stream = record state.stream { marks = marks } }

-- The workspace of a stream over objects, so many of which are committed. The files of the open
-- commit are those that its branch means among these objects.
abbrev pub workspace_over : StreamState → List Object → ℕ → RefStore → Workspace
workspace_over state objects committed refs = record {
  objects = objects;
  committed = committed;
  refs = refs;
  stream = stream_with (open_commit_in objects) state.stream;
}

-- The same where the objects are in a table over a pool.
abbrev pub workspace_in : StreamState → Cells → View → RefStore → Workspace
workspace_in state pool table refs =
    workspace_over state (objects pool table.entries) table.committed refs

-- An act, or the end of the stream, was carried out: it left this workspace and printed its reply;
-- or its refusal was answered. `Memory` may take the place of either.
abbrev pub CarriesOut : Result Effect Fault → Workspace → List ℕ → List ℕ → Result Unit Fault
    → Type 0
CarriesOut (Ok effect) new out out' (Ok u) = (effect.workspace ≡ new) × (out' ≡ out ++ effect.reply)
CarriesOut (Ok effect) new out out' (Err e) = e ≡ fault.Memory
CarriesOut (Err refusal) new out out' (Ok u) = ⊥
CarriesOut (Err refusal) new out out' (Err e) = e ≢ fault.Memory → e ≡ refusal

-- A call keeps all objects of the last checkpoint.
abbrev pub KeepsCommitted : Cells → View → Cells → View → Type 0
KeepsCommitted before old after new = take new.committed (objects after new.entries)
    ≡ take old.committed (objects before old.entries)

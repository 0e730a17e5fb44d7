-- The workspace of a stream: what git-fast-import(1) keeps while it reads.
use Rattle.std.specs.Prelude.{ℕ, List, [], length, Result, Ok}
use Rattle.git_model.specs.RefStore.{RefStore}
use Rattle.git_model.specs.Repository.{Object, Repository}
use Rattle.stream_parts.specs.declared.fault.Fault.{Fault}
use Rattle.open_commits.specs.OpenCommit.{OpenCommit}
use Rattle.stream_parts.specs.OpenCommand.{OpenCommand}
use Rattle.stream_parts.specs.StreamOf.{StreamOf, new_stream}

-- A workspace: the objects of the repository, oldest first and those of this stream last, and how
-- many of them were there at the last checkpoint; the refs and HEAD as last saved; and what the
-- stream has of its own.
pub record Workspace : Type 0 where
  pub objects : List Object
  pub committed : ℕ
  pub refs : RefStore
  pub stream : StreamOf OpenCommit

-- A stream opens with the objects of the repository, all of them committed, its refs with HEAD, and
-- nothing of its own.
abbrev pub opened : Repository → Workspace
opened repository = record {
  objects = repository.objects;
  committed = length repository.objects;
  refs = repository.refs;
  stream = new_stream;
}

-- The same workspace with this command open.
abbrev pub with_command : Workspace → OpenCommand OpenCommit → Workspace
with_command workspace command =
    record workspace { stream = record workspace.stream { command = command } }

-- What an act leaves, and what it prints.
pub record Effect : Type 0 where
  pub workspace : Workspace
  pub reply : List ℕ

-- The effect of an act that prints nothing.
abbrev pub quiet : Workspace → Result Effect Fault
quiet workspace = Ok (record { workspace = workspace; reply = [] })

-- What a line of a command needs: the command that it belongs to is open.
use Rattle.std.specs.Prelude.{Result}
use Rattle.open_commits.specs.OpenCommit.{OpenCommit}
use Rattle.stream_parts.specs.declared.fault.Fault.{Fault}
use Rattle.stream_parts.specs.declared.headers.CommitHeader.{CommitHeader}
use Rattle.stream_parts.specs.declared.headers.TagHeader.{TagHeader}
use Rattle.git_model.specs.Results.{and_then}
use Rattle.stream_parts.specs.OpenCommand.{Commit, Tag, Changes, changes_in, commit_header_in, tag_header_in}
use Rattle.stream_commands.specs.Workspace.{Workspace, Effect, quiet, with_command}

-- A line of a commit, before its message, adds to its header.
abbrev pub in_commit_header : (CommitHeader → CommitHeader) → Workspace → Result Effect Fault
in_commit_header more workspace =
    and_then (commit_header_in workspace.stream.command) (λ header.
    quiet (with_command workspace (Commit (more header))))

-- A line of a tag, before its message, adds to its header.
abbrev pub in_tag_header : (TagHeader → TagHeader) → Workspace → Result Effect Fault
in_tag_header more workspace =
    and_then (tag_header_in workspace.stream.command) (λ header.
    quiet (with_command workspace (Tag (more header))))

-- A line of a commit, after its message, changes the open commit.
abbrev pub in_changes : (OpenCommit → Result OpenCommit Fault) → Workspace → Result Effect Fault
in_changes change workspace =
    and_then (changes_in workspace.stream.command) (λ commit.
    and_then (change commit) (λ next. quiet (with_command workspace (Changes next))))

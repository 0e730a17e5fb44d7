-- What changes in the files of the open commit: git-fast-import(1), "filemodify" to
-- "filedeleteall".
use Rattle.std.specs.Prelude.{ℕ, List, Result, Ok}
use Rattle.git_model.specs.declared.file_mode.FileMode.{FileMode}
use Rattle.stream_grammar.specs.declared.data_ref.DataRef.{DataRef}
use Rattle.stream_grammar.specs.Changes.{Path}
use Rattle.stream_grammar.specs.Acts.{FileChange, Modify, ModifyInline, InlineData, Delete, Copy, Rename, DeleteAll}
use Rattle.open_commits.specs.OpenCommit.{OpenCommit}
use Rattle.open_commits.specs.Changes.{modified, deleted, copied_to, renamed_to, all_deleted, contents_put}
use Rattle.stream_parts.specs.declared.fault.Fault.{Fault}
use Rattle.stream_parts.specs.declared.headers.InlineFile.{InlineFile}
use Rattle.git_model.specs.Results.{and_then}
use Rattle.stream_parts.specs.OpenCommand.{Changes, Inline, changes_in, inline_in}
use Rattle.stream_commands.specs.Faults.{changed_or}
use Rattle.stream_commands.specs.Workspace.{Workspace, Effect, quiet, with_command}
use Rattle.stream_commands.specs.Lines.{in_changes}

-- The contents of a file are stored, and the file is put.
abbrev pub file_stored : (List ℕ → List ℕ) → List ℕ → OpenCommit → InlineFile → Workspace
    → Result Effect Fault
file_stored digest bytes commit file workspace =
    and_then (changed_or (contents_put digest workspace.objects file.mode file.path bytes commit))
    (λ left. quiet (with_command (record workspace { objects = left.objects })
    (Changes left.commit)))

-- 'M' with 'inline': the next data is the contents of this file.
abbrev pub file_awaited : FileMode → Path → Workspace → Result Effect Fault
file_awaited mode path workspace =
    and_then (changes_in workspace.stream.command) (λ commit.
    quiet (with_command workspace (Inline commit (record { mode = mode; path = path }))))

-- 'data' of an 'inline' file.
abbrev pub file_given : (List ℕ → List ℕ) → List ℕ → Workspace → Result Effect Fault
file_given digest bytes workspace =
    and_then (inline_in workspace.stream.command) (λ inline.
    file_stored digest bytes inline.0 inline.1 workspace)

-- 'M': puts an object at a path.
abbrev pub file_modified : FileMode → DataRef → Path → Workspace → Result Effect Fault
file_modified mode object path workspace =
    in_changes (λ commit.
    changed_or (modified workspace.objects workspace.stream.marks mode object path commit))
    workspace

-- What a change of files leaves.
unfoldable pub files_changed : (List ℕ → List ℕ) → FileChange → Workspace → Result Effect Fault
-- 'M'.
files_changed digest (Modify mode object path) workspace = file_modified mode object path workspace
-- 'M' with 'inline', and the 'data' after it.
files_changed digest (ModifyInline mode path) workspace = file_awaited mode path workspace
files_changed digest (InlineData bytes) workspace = file_given digest bytes workspace
-- 'D'.
files_changed digest (Delete path) workspace =
    in_changes (λ commit. Ok (deleted path commit)) workspace
-- 'C'.
files_changed digest (Copy source path) workspace =
    in_changes (λ commit. changed_or (copied_to source path commit)) workspace
-- 'R'.
files_changed digest (Rename source path) workspace =
    in_changes (λ commit. changed_or (renamed_to source path commit)) workspace
-- 'deleteall'.
files_changed digest DeleteAll workspace = in_changes (λ commit. Ok (all_deleted commit)) workspace

-- The open command: git-fast-import(1), "commit", "tag" and "reset".
use Rattle.std.specs.Prelude.{ℕ, List, Option, None, Some, Result, Ok, Err}
use Rattle.stream_grammar.specs.declared.fault.Fault.TheVariants as text_fault
use Rattle.stream_parts.specs.declared.fault.Fault.{Fault}
use Rattle.stream_parts.specs.declared.fault.Fault.TheVariants as fault
use Rattle.stream_parts.specs.declared.headers.CommitHeader.{CommitHeader}
use Rattle.stream_parts.specs.declared.headers.TagHeader.{TagHeader}
use Rattle.stream_parts.specs.declared.headers.InlineFile.{InlineFile}

-- What is open: no command; a commit or a tag before its message, with what its header lines have
-- said; a reset, with the ref of its branch, until its `from` comes or another command opens; a
-- commit after its message; or a file of that commit that waits for its data. `Held` is how a commit
-- is held after its message.
pub data OpenCommand (Held : Type 0) : Type 0 where
  Nothing : OpenCommand Held
  Commit : CommitHeader → OpenCommand Held
  Tag : TagHeader → OpenCommand Held
  Reset : List ℕ → OpenCommand Held
  Changes : Held → OpenCommand Held
  Inline : Held → InlineFile → OpenCommand Held

-- The same with its commit held in another way.
abbrev pub command_with : {Held Other : Type 0} → (Held → Other) → OpenCommand Held
    → OpenCommand Other
command_with to Nothing = Nothing
command_with to (Commit header) = Commit header
command_with to (Tag header) = Tag header
command_with to (Reset ref) = Reset ref
command_with to (Changes commit) = Changes (to commit)
command_with to (Inline commit file) = Inline (to commit) file

-- A line that belongs to nothing open is no command.
abbrev pub not_open : {A : Type 0} → Result A Fault
not_open = Err (fault.Text text_fault.UnknownCommand)

-- What the lines before must have said.
abbrev pub already_said : {A : Type 0} → Option A → Result A Fault
already_said None = not_open
already_said (Some value) = Ok value

-- What each line needs open: a commit before its message.
abbrev pub commit_header_in : {Held : Type 0} → OpenCommand Held → Result CommitHeader Fault
commit_header_in (Commit header) = Ok header
commit_header_in _ = not_open

-- A tag before its message.
abbrev pub tag_header_in : {Held : Type 0} → OpenCommand Held → Result TagHeader Fault
tag_header_in (Tag header) = Ok header
tag_header_in _ = not_open

-- A reset, by the ref of its branch.
abbrev pub reset_in : {Held : Type 0} → OpenCommand Held → Result (List ℕ) Fault
reset_in (Reset ref) = Ok ref
reset_in _ = not_open

-- A commit after its message.
abbrev pub changes_in : {Held : Type 0} → OpenCommand Held → Result Held Fault
changes_in (Changes commit) = Ok commit
changes_in _ = not_open

-- A file that waits for its data, and its commit.
abbrev pub inline_in : {Held : Type 0} → OpenCommand Held → Result (Held × InlineFile) Fault
inline_in (Inline commit file) = Ok (commit, file)
inline_in _ = not_open

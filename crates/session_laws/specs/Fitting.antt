-- No act comes where its command is not open. What git-fast-import(1) says of the order of lines is
-- judged by the parser, before an act is carried out.
use Rattle.std.specs.Prelude.{◌≡◌, Option, None, Some, IfOk}
use Rattle.stream_grammar.specs.declared.stage.CommitNext.{CommitNext}
use Rattle.stream_grammar.specs.declared.stage.CommitNext.TheVariants as commit
use Rattle.stream_grammar.specs.declared.stage.ResetNext.{ResetNext}
use Rattle.stream_grammar.specs.declared.stage.ResetNext.TheVariants as reset
use Rattle.stream_grammar.specs.declared.stage.TagNext.{TagNext}
use Rattle.stream_grammar.specs.declared.stage.TagNext.TheVariants as tag
use Rattle.stream_grammar.specs.declared.stage.Stage.{Stage}
use Rattle.stream_grammar.specs.declared.stage.Stage.TheVariants as stage
use Rattle.stream_grammar.specs.Stages.{opened_of, terms_of}
use Rattle.stream_grammar.specs.Commands.{Open}
use Rattle.stream_grammar.specs.Acts.{ObjectCommand, TagTarget, Tagger, Tag}
use Rattle.stream_grammar.specs.Acts.{CommitCommand, Begin, Message, From, Merge}
use Rattle.stream_grammar.specs.Acts.{FileChange, InlineData}
use Rattle.stream_grammar.specs.Acts.{RefCommand, ResetFrom}
use Rattle.stream_grammar.specs.Acts.{ReplyCommand, LsInCommit}
use Rattle.stream_grammar.specs.Acts.{Act, Object, Commit, Change, Ref, Reply}
use Rattle.open_commits.specs.OpenCommit.{OpenCommit}
use Rattle.stream_parts.specs.OpenCommand.{OpenCommand}
use Rattle.stream_parts.specs.OpenCommand as open_command
use Rattle.stream_commands.specs.Workspace.{Workspace}
use Rattle.import_session.specs.Stream.{Running}

-- Something was said.
abbrev pub IsThere : {A : Type 0} → Option A → Type 0
IsThere None = ⊥
IsThere (Some value) = Unit {0}

-- The open command is a commit before its message.
abbrev pub IsCommit : OpenCommand OpenCommit → Type 0
IsCommit (open_command.Commit header) = Unit {0}
IsCommit _ = ⊥

-- Such a commit has named its committer.
abbrev pub HasCommitter : OpenCommand OpenCommit → Type 0
HasCommitter (open_command.Commit header) = IsThere header.committer
HasCommitter _ = ⊥

-- The open command is a tag.
abbrev pub IsTag : OpenCommand OpenCommit → Type 0
IsTag (open_command.Tag header) = Unit {0}
IsTag _ = ⊥

-- It has named what it tags.
abbrev pub HasTarget : OpenCommand OpenCommit → Type 0
HasTarget (open_command.Tag header) = IsThere header.target
HasTarget _ = ⊥

-- The open command is a reset before its `from`.
abbrev pub IsReset : OpenCommand OpenCommit → Type 0
IsReset (open_command.Reset ref) = Unit {0}
IsReset _ = ⊥

-- The open command is a commit after its message.
abbrev pub IsChanging : OpenCommand OpenCommit → Type 0
IsChanging (open_command.Changes commit) = Unit {0}
IsChanging _ = ⊥

-- A file of it waits for its data.
abbrev pub IsInline : OpenCommand OpenCommit → Type 0
IsInline (open_command.Inline commit file) = Unit {0}
IsInline _ = ⊥

-- ---- an act fits a workspace if the command that it belongs to is open there

-- The lines of a tag need its header, and its message needs what it tags.
abbrev pub FitsObject : ObjectCommand → Workspace → Type 0
FitsObject (TagTarget target) workspace = IsTag workspace.stream.command
FitsObject (Tagger ident) workspace = IsTag workspace.stream.command
FitsObject (Tag mark message) workspace = HasTarget workspace.stream.command
FitsObject _ workspace = Unit {0}

-- The lines of a commit need its header, its message needs a committer, and its parents need the
-- open commit.
abbrev pub FitsCommit : CommitCommand → Workspace → Type 0
FitsCommit (Begin ref) workspace = Unit {0}
FitsCommit (Message mark message) workspace = HasCommitter workspace.stream.command
FitsCommit (From from) workspace = IsChanging workspace.stream.command
FitsCommit (Merge other) workspace = IsChanging workspace.stream.command
FitsCommit _ workspace = IsCommit workspace.stream.command

-- A change needs the open commit, and data need the file that waits for them.
abbrev pub FitsChange : FileChange → Workspace → Type 0
FitsChange (InlineData bytes) workspace = IsInline workspace.stream.command
FitsChange _ workspace = IsChanging workspace.stream.command

-- 'from' in a reset needs the reset.
abbrev pub FitsRef : RefCommand → Workspace → Type 0
FitsRef (ResetFrom from) workspace = IsReset workspace.stream.command
FitsRef _ workspace = Unit {0}

-- 'ls' with a path alone needs the open commit.
abbrev pub FitsReply : ReplyCommand → Workspace → Type 0
FitsReply (LsInCommit path) workspace = IsChanging workspace.stream.command
FitsReply _ workspace = Unit {0}

-- What a command stores fits into a repository; commands that store nothing fit.
abbrev pub Fits : Act → Workspace → Type 0
Fits (Object command) workspace = FitsObject command workspace
Fits (Commit command) workspace = FitsCommit command workspace
Fits (Change change) workspace = FitsChange change workspace
Fits (Ref command) workspace = FitsRef command workspace
Fits (Reply command) workspace = FitsReply command workspace
Fits _ workspace = Unit {0}

-- ---- the parser and the workspace are in step

-- Where the encoding or the message of a commit may come next, a committer is named.
abbrev pub IsCommitBefore : CommitNext → Workspace → Type 0
IsCommitBefore commit.Encoding workspace = HasCommitter workspace.stream.command
IsCommitBefore commit.Data workspace = HasCommitter workspace.stream.command
IsCommitBefore _ workspace = IsCommit workspace.stream.command

-- Where a part of a tag after its `from` may come next, it has named what it tags.
abbrev pub IsTagBefore : TagNext → Workspace → Type 0
IsTagBefore tag.Mark workspace = IsTag workspace.stream.command
IsTagBefore tag.From workspace = IsTag workspace.stream.command
IsTagBefore _ workspace = HasTarget workspace.stream.command

-- Where the 'from' of a reset may come next, the reset is open.
abbrev pub IsResetBefore : ResetNext → Workspace → Type 0
IsResetBefore reset.From workspace = IsReset workspace.stream.command
IsResetBefore reset.Blank workspace = Unit {0}

-- The workspace has open what the parser has.
abbrev pub IsOpenAt : Stage → Workspace → Type 0
IsOpenAt (stage.Commit next) workspace = IsCommitBefore next workspace
IsOpenAt (stage.Changes next) workspace = IsChanging workspace.stream.command
IsOpenAt stage.Inline workspace = IsInline workspace.stream.command
IsOpenAt (stage.Tag next) workspace = IsTagBefore next workspace
IsOpenAt (stage.Reset next) workspace = IsResetBefore next workspace
IsOpenAt _ workspace = Unit {0}

-- The kind of the open command and the terms that are left are those of a stage at which the
-- workspace has the same open.
pub record IsAtStage (opened : Open) (workspace : Workspace) : Type 0 where
  pub stage : Stage
  pub kind : opened.opened ≡ opened_of stage
  pub terms : opened.left ≡ terms_of stage
  pub there : IsOpenAt stage workspace

-- A stream whose parser has refused an item takes no further item.
abbrev pub IsInStep : Running → Type 0
IsInStep now = IfOk now.parsing (λ opened. IsAtStage opened now.workspace)

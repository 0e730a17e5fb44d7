-- What contracts see of the values of the parser: acts without where their bytes lie, and the open
-- command as terms.
use Rattle.std.specs.Prelude.{◌≡◌, ◌≢◌, ℕ, true, List, [], ◌∷◌, Option, Some, None, Result, Ok, Err}
use Rattle.stream_grammar.specs.declared.fault.Fault.{Fault}
use Rattle.stream_grammar.specs.declared.fault.Fault.TheVariants as fault
use Rattle.stream_grammar.specs.declared.commit_ish.CommitIsh.{CommitIsh as LentCommitIsh}
use Rattle.stream_grammar.specs.declared.commit_ish.CommitIsh.TheVariants as commit_ish
use Rattle.stream_grammar.specs.declared.act.Act.{Act as LentAct}
use Rattle.stream_grammar.specs.declared.act.Act.TheVariants as lent
use Rattle.stream_grammar.specs.declared.act.ObjectCommand.{ObjectCommand as LentObject}
use Rattle.stream_grammar.specs.declared.act.ObjectCommand.TheVariants as object
use Rattle.stream_grammar.specs.declared.act.CommitCommand.{CommitCommand as LentCommit}
use Rattle.stream_grammar.specs.declared.act.CommitCommand.TheVariants as commit
use Rattle.stream_grammar.specs.declared.act.FileChange.{FileChange as LentChange}
use Rattle.stream_grammar.specs.declared.act.FileChange.TheVariants as change
use Rattle.stream_grammar.specs.declared.act.RefCommand.{RefCommand as LentRef}
use Rattle.stream_grammar.specs.declared.act.RefCommand.TheVariants as ref
use Rattle.stream_grammar.specs.declared.act.ReplyCommand.{ReplyCommand as LentReply}
use Rattle.stream_grammar.specs.declared.act.ReplyCommand.TheVariants as reply
use Rattle.stream_grammar.specs.declared.act.Done.{Done as LentDone}
use Rattle.stream_grammar.specs.declared.command.Command.{Command}
use Rattle.stream_grammar.specs.Names.{CommitIsh, Marked, Expression}
use Rattle.stream_grammar.specs.Acts.{ObjectCommand, Blob, BeginTag, TagTarget, Tagger, Tag}
use Rattle.stream_grammar.specs.Acts.{CommitCommand, Begin, Author, Committer, Encoding}
use Rattle.stream_grammar.specs.Acts.{Message, From, Merge}
use Rattle.stream_grammar.specs.Acts.{FileChange, Modify, ModifyInline, InlineData}
use Rattle.stream_grammar.specs.Acts.{Delete, Copy, Rename, DeleteAll}
use Rattle.stream_grammar.specs.Acts.{RefCommand, Reset, ResetFrom, Alias}
use Rattle.stream_grammar.specs.Acts.{ReplyCommand, GetMark, CatBlob, Ls, LsInCommit, Progress}
use Rattle.stream_grammar.specs.Acts.{Act, Wait, Object, Commit, Change, Ref, Reply, Control, Effect}
use Rattle.stream_grammar.specs.Commands.{Done, Open, Parsing, Step}
use Rattle.stream_grammar.specs.declared.part.Part.{Part}
use Rattle.stream_grammar.specs.Lines.{may_wait}
use Rattle.stream_grammar.specs.Stages.{terms_of, opened_of}

-- A commit-ish without where its bytes lie.
abbrev pub commit_shown : LentCommitIsh → CommitIsh
commit_shown (commit_ish.Mark mark) = Marked mark
commit_shown (commit_ish.Expression words) = Expression words.now

-- The commands of acts without where their bytes lie.
abbrev pub object_shown : LentObject → ObjectCommand
object_shown (object.Blob mark contents) = Blob mark contents.now
object_shown (object.BeginTag ref) = BeginTag ref
object_shown (object.TagTarget target) = TagTarget (commit_shown target)
object_shown (object.Tagger ident) = Tagger ident
object_shown (object.Tag mark message) = Tag mark message.now

-- A command of a commit.
abbrev pub commit_command_shown : LentCommit → CommitCommand
commit_command_shown (commit.Begin ref) = Begin ref
commit_command_shown (commit.Author ident) = Author ident
commit_command_shown (commit.Committer ident) = Committer ident
commit_command_shown (commit.Encoding encoding) = Encoding encoding.now
commit_command_shown (commit.Message mark message) = Message mark message.now
commit_command_shown (commit.From from) = From (commit_shown from)
commit_command_shown (commit.Merge other) = Merge (commit_shown other)

-- A change to the files of a commit.
abbrev pub change_shown : LentChange → FileChange
change_shown (change.Modify mode object path) = Modify mode object path
change_shown (change.ModifyInline mode path) = ModifyInline mode path
change_shown (change.InlineData contents) = InlineData contents.now
change_shown (change.Delete path) = Delete path
change_shown (change.Copy source path) = Copy source path
change_shown (change.Rename source path) = Rename source path
change_shown change.DeleteAll = DeleteAll

-- A command that sets a branch or a mark.
abbrev pub ref_command_shown : LentRef → RefCommand
ref_command_shown (ref.Reset branch) = Reset branch
ref_command_shown (ref.ResetFrom from) = ResetFrom (commit_shown from)
ref_command_shown (ref.Alias mark target) = Alias mark (commit_shown target)

-- A command that prints.
abbrev pub reply_shown : LentReply → ReplyCommand
reply_shown (reply.GetMark mark) = GetMark mark
reply_shown (reply.CatBlob object) = CatBlob object
reply_shown (reply.Ls root path) = Ls root path
reply_shown (reply.LsInCommit path) = LsInCommit path
reply_shown (reply.Progress line) = Progress line.now

-- An act without where its bytes lie.
abbrev pub act_shown : LentAct → Act
act_shown lent.Wait = Wait
act_shown (lent.Object command) = Object (object_shown command)
act_shown (lent.Commit command) = Commit (commit_command_shown command)
act_shown (lent.Change command) = Change (change_shown command)
act_shown (lent.Ref command) = Ref (ref_command_shown command)
act_shown (lent.Reply command) = Reply (reply_shown command)
act_shown (lent.Control command) = Control command

-- What was done with an item.
abbrev pub done_shown : LentDone → Done
done_shown done = record { ends_commit = done.ends_commit; act = act_shown done.act }

-- The open command: the terms and the kind of its stage.
abbrev pub open_shown : Command → Open
open_shown command = record {
  late = command.late;
  opened = opened_of command.stage;
  mark = command.mark;
  left = terms_of command.stage;
}

-- A parser that has answered a fault holds it, whatever command was open.
abbrev pub parsing_shown : Option Fault → Command → Parsing
parsing_shown None command = Ok (open_shown command)
parsing_shown (Some fault) command = Err fault

-- What a part gave: an act, and the mark of the open command after it; or a fault.
abbrev pub Brings : Result LentAct Fault → Option ℕ → Result Effect Fault → Type 0
Brings (Ok act) mark effect = effect ≡ Ok (record { mark = mark; act = act_shown act })
Brings (Err e) mark effect = e ≢ fault.Memory → effect ≡ Err e

-- What an item gave, and the open command after it; or a fault.
abbrev pub Steps : Result LentDone Fault → Command → Result Step Fault → Type 0
Steps (Ok done) new step = step ≡ Ok (record { done = done_shown done; next = open_shown new })
Steps (Err e) new step = e ≢ fault.Memory → step ≡ Err e

-- The answer of a call is what the definitions give. `Memory` may replace it.
abbrev pub Answers : Result LentDone Fault → Result Done Fault → Type 0
Answers (Ok done) given = given ≡ Ok (done_shown done)
Answers (Err e) given = e ≢ fault.Memory → given ≡ Err e

-- What a call's answer adds to the acts that were given: one act, or nothing after a fault.
abbrev pub given_shown : Result LentDone Fault → List Done
given_shown (Ok done) = done_shown done ∷ []
given_shown (Err e) = []

-- An item that asks for nothing has a part that may do so.
abbrev pub AsksBy : Part → Result LentDone Fault → Type 0
AsksBy part (Ok done) = act_shown done.act ≡ Wait → may_wait part ≡ true
AsksBy part (Err e) = Unit {0}

-- What an item asks for, by its words and its place; git-fast-import(1), "Commands".
use Rattle.std.specs.Prelude.{ℕ, Bool, true, false, ◌&&◌, List, Option, Some, None, Result, Ok}
use Rattle.stream_lex.specs.Items.{Item, Line, Data, Blank}
use Rattle.stream_grammar.specs.declared.fault.Fault.{Fault}
use Rattle.stream_grammar.specs.declared.feature.OptionCommand.{OptionCommand}
use Rattle.stream_grammar.specs.declared.feature.OptionCommand.TheVariants as option
use Rattle.stream_grammar.specs.declared.part.OpeningLine.{OpeningLine}
use Rattle.stream_grammar.specs.declared.part.OpeningLine.TheVariants as opening
use Rattle.stream_grammar.specs.declared.part.ReplyLine.{ReplyLine}
use Rattle.stream_grammar.specs.declared.part.ReplyLine.TheVariants as reply
use Rattle.stream_grammar.specs.declared.part.ControlLine.{ControlLine}
use Rattle.stream_grammar.specs.declared.part.ControlLine.TheVariants as control
use Rattle.stream_grammar.specs.declared.part.HeaderLine.{HeaderLine}
use Rattle.stream_grammar.specs.declared.part.HeaderLine.TheVariants as header
use Rattle.stream_grammar.specs.declared.part.CommitIshLine.{CommitIshLine}
use Rattle.stream_grammar.specs.declared.part.CommitIshLine.TheVariants as commit_ish
use Rattle.stream_grammar.specs.declared.part.ChangeLine.{ChangeLine}
use Rattle.stream_grammar.specs.declared.part.ChangeLine.TheVariants as change
use Rattle.stream_grammar.specs.declared.part.Part.{Part}
use Rattle.stream_grammar.specs.declared.part.Part.TheVariants as part
use Rattle.stream_grammar.specs.declared.stage.Opened.{Opened}
use Rattle.stream_grammar.specs.declared.stage.Opened.TheVariants as opened
use Rattle.stream_grammar.specs.Texts.{read, argument, mark_of, dataref_of}
use Rattle.stream_grammar.specs.Names.{CommitIsh, ref_of, tag_ref_of, ident_of, commit_ish_of}
use Rattle.stream_grammar.specs.Features.{feature_of, in_time, option_of, quiet_of, head_of}
use Rattle.stream_grammar.specs.declared.act.ControlCommand.TheVariants as command
use Rattle.stream_grammar.specs.Acts.{Act, Wait, Object, Commit, Change, Ref, Reply, Control}
use Rattle.stream_grammar.specs.Acts.{Effect, brings}
use Rattle.stream_grammar.specs.Acts.{Blob, BeginTag, TagTarget, Tagger, Tag}
use Rattle.stream_grammar.specs.Acts.{Begin, Author, Committer, Encoding, Message, From, Merge}
use Rattle.stream_grammar.specs.Acts.{Modify, ModifyInline, InlineData}
use Rattle.stream_grammar.specs.Acts.{Delete, Copy, Rename, DeleteAll}
use Rattle.stream_grammar.specs.Acts.{Reset, ResetFrom, Alias}
use Rattle.stream_grammar.specs.Acts.{GetMark, CatBlob, Ls, LsInCommit, Progress}
use Rattle.stream_grammar.specs.Changes.{last_path, paths_of, object_and_path, is_quoted}
use Rattle.stream_grammar.specs.Changes.{modified, modified_inline, encoding_of}

-- A `from` says, by the open command, where a commit starts, the target of a tag, or the commit
-- that a branch is set to. The other commands have no `from`.
abbrev pub from_act : Opened → CommitIsh → Act
from_act opened.Changes commit = Commit (From commit)
from_act opened.Tag commit = Object (TagTarget commit)
from_act opened.Reset commit = Ref (ResetFrom commit)
from_act _ commit = Wait

-- An alias sets its mark, which comes before its `to`.
abbrev pub alias_act : Option ℕ → CommitIsh → Act
alias_act (Some mark) commit = Ref (Alias mark commit)
alias_act None commit = Wait

-- A line of a header. A mark becomes that of the open command; an original-oid asks for nothing.
abbrev pub header_effect : Option ℕ → HeaderLine → List ℕ → Result Effect Fault
header_effect mark header.Mark text = read (mark_of text) (λ number. brings (Some number) Wait)
header_effect mark header.OriginalOid text = brings mark Wait
header_effect mark header.Author text =
    read (ident_of text) (λ ident. brings mark (Commit (Author ident)))
header_effect mark header.Committer text =
    read (ident_of text) (λ ident. brings mark (Commit (Committer ident)))
header_effect mark header.Encoding text =
    read (encoding_of text) (λ encoding. brings mark (Commit (Encoding encoding)))
header_effect mark header.Tagger text =
    read (ident_of text) (λ ident. brings mark (Object (Tagger ident)))

-- A line with a commit-ish. The act of a `from` depends on the open command, and that of a `to` on
-- the mark, which it uses up.
abbrev pub commit_ish_effect : Opened → Option ℕ → CommitIshLine → List ℕ → Result Effect Fault
commit_ish_effect now mark commit_ish.From text =
    read (commit_ish_of text) (λ commit. brings mark (from_act now commit))
commit_ish_effect now mark commit_ish.Merge text =
    read (commit_ish_of text) (λ commit. brings mark (Commit (Merge commit)))
commit_ish_effect now mark commit_ish.To text =
    read (commit_ish_of text) (λ commit. brings None (alias_act mark commit))

-- A line that changes the files of a commit.
abbrev pub change_act : ChangeLine → List ℕ → Result Act Fault
change_act change.Modify text =
    read (modified text) (λ file. Ok (Change (Modify file.0 file.1 file.2)))
change_act change.ModifyInline text =
    read (modified_inline text) (λ file. Ok (Change (ModifyInline file.0 file.1)))
change_act change.Delete text = read (last_path text) (λ path. Ok (Change (Delete path)))
change_act change.Copy text = read (paths_of text) (λ paths. Ok (Change (Copy paths.0 paths.1)))
change_act change.Rename text = read (paths_of text) (λ paths. Ok (Change (Rename paths.0 paths.1)))
change_act change.DeleteAll text = Ok (Change DeleteAll)

-- 'ls' with a path alone, which is one of the open commit, or with a dataref and a path.
abbrev pub ls_act : Bool → List ℕ → Result Act Fault
ls_act true text = read (last_path text) (λ path. Ok (Reply (LsInCommit path)))
ls_act false text = read (object_and_path text) (λ entry. Ok (Reply (Ls entry.0 entry.1)))

-- A command that prints something. Inside a commit the path of an `ls` may come alone, in quotes.
abbrev pub reply_act : Bool → ReplyLine → List ℕ → Result Act Fault
reply_act inside reply.Progress text = Ok (Reply (Progress text))
reply_act inside reply.GetMark text =
    read (mark_of (argument text)) (λ mark. Ok (Reply (GetMark mark)))
reply_act inside reply.CatBlob text =
    read (dataref_of (argument text)) (λ object. Ok (Reply (CatBlob object)))
reply_act inside reply.Ls text = ls_act (inside && is_quoted (argument text)) (argument text)

-- A line inside the open command, which may have a mark. No other part is a line inside a command.
abbrev pub line_effect : Opened → Option ℕ → Part → List ℕ → Result Effect Fault
line_effect now mark (part.Header line) text = header_effect mark line (argument text)
line_effect now mark (part.CommitIsh line) text =
    commit_ish_effect now mark line (argument text)
line_effect now mark (part.Change line) text =
    read (change_act line (argument text)) (λ act. brings mark act)
line_effect now mark (part.Reply line) text =
    read (reply_act true line text) (λ act. brings mark act)
line_effect now mark _ text = brings mark Wait

-- Data, by the open command. The other commands have no data.
abbrev pub data_act : Opened → Option ℕ → List ℕ → Act
data_act opened.Blob mark contents = Object (Blob mark contents)
data_act opened.Commit mark contents = Commit (Message mark contents)
data_act opened.Inline mark contents = Change (InlineData contents)
data_act opened.Tag mark contents = Object (Tag mark contents)
data_act _ mark contents = Wait

-- An item inside the open command. Data use up its mark, and a blank line ends it.
abbrev pub inner_effect : Opened → Option ℕ → Part → Item → Result Effect Fault
inner_effect now mark part (Line text) = line_effect now mark part text
inner_effect now mark part (Data contents) = brings None (data_act now mark contents)
inner_effect now mark part Blank = brings None Wait

-- An option, by the system whose option it is. Those of other systems are ignored.
abbrev pub option_act : Bool → OptionCommand → List ℕ → Result Act Fault
option_act late option.Git words =
    read (in_time late) (λ _. read (quiet_of words) (λ _. Ok Wait))
option_act late option.Head words =
    read (in_time late) (λ _.
    read (head_of (argument (argument words))) (λ ref. Ok (Control (command.Head ref))))
option_act late option.Other words = Ok Wait

-- A command that is about the stream itself.
abbrev pub control_act : Bool → ControlLine → List ℕ → Result Act Fault
control_act late control.Checkpoint text = Ok (Control command.Checkpoint)
control_act late control.Done text = Ok (Control command.Done)
control_act late control.Feature text =
    read (in_time late) (λ _.
    read (feature_of text) (λ feature. Ok (Control (command.Feature feature))))
control_act late control.OptionCommand text = option_act late (option_of text) text

-- The first line of a command of several lines. That of a blob or an alias asks for nothing yet.
abbrev pub opening_act : OpeningLine → List ℕ → Result Act Fault
opening_act opening.Blob text = Ok Wait
opening_act opening.Commit text = read (ref_of text) (λ ref. Ok (Commit (Begin ref)))
opening_act opening.Tag text = read (tag_ref_of text) (λ ref. Ok (Object (BeginTag ref)))
opening_act opening.Reset text = read (ref_of text) (λ ref. Ok (Ref (Reset ref)))
opening_act opening.Alias text = Ok Wait

-- A line that begins a command. No other part is a line that begins one.
abbrev pub first_line_act : Bool → Part → List ℕ → Result Act Fault
first_line_act late (part.Opening line) text = opening_act line (argument text)
first_line_act late (part.Reply line) text = reply_act false line text
first_line_act late (part.Control line) text = control_act late line (argument text)
first_line_act late _ text = Ok Wait

-- An item that begins a command.
abbrev pub first_act : Bool → Part → Item → Result Act Fault
first_act late part (Line text) = first_line_act late part text
first_act late part (Data contents) = Ok Wait
first_act late part Blank = Ok Wait

-- The parts that may ask for nothing: the first lines of a blob and of an alias, 'mark',
-- 'original-oid', 'option' and a blank line. Every other part that the parser accepts gives an act.
abbrev pub may_wait : Part → Bool
may_wait (part.Opening opening.Blob) = true
may_wait (part.Opening opening.Alias) = true
may_wait (part.Header header.Mark) = true
may_wait (part.Header header.OriginalOid) = true
may_wait (part.Control control.OptionCommand) = true
may_wait part.Blank = true
may_wait _ = false

-- An act that fits the workspace is not refused as no command.
use Rattle.std.proofs.Common.{◌≡◌, ◌≢◌, ℕ, List, Option, Some, None, Result, Ok, Err, codes}
use Rattle.std.specs.Prelude.{IfErr, nat_lt, length}
use Rattle.std.specs.Map.{lookup}
use Rattle.std.specs.Prelude.{nat_eq}
use Rattle.std.specs.Str.{bytes_eq}
use Rattle.git_model.specs.declared.kind.Kind.{Kind}
use Rattle.git_model.specs.declared.kind.Kind.TheVariants as kind
use Rattle.git_model.specs.Content.{Content, content_from, name_by}
use Rattle.git_model.specs.Repository.{Object, object_named}
use Rattle.git_model.specs.References.{kind_named}
use Rattle.revisions.specs.declared.fault.Fault.{Fault as RevisionFault}
use Rattle.revisions.specs.declared.fault.Fault.TheVariants as revision_fault
use Rattle.revisions.specs.Resolution.{resolved, peeled}
use Rattle.tenant_tables.specs.declared.fault.Fault.{Fault as TableFault}
use Rattle.tenant_tables.specs.declared.fault.Fault.TheVariants as table_fault
use Rattle.tenant_tables.specs.Adding.{store_fault}
use Rattle.stream_grammar.specs.declared.marked_object.MarkedObject.{MarkedObject}
use Rattle.stream_grammar.specs.declared.fault.Fault.TheVariants as text_fault
use Rattle.stream_grammar.specs.declared.act.ControlCommand.{ControlCommand}
use Rattle.stream_grammar.specs.declared.act.ControlCommand.TheVariants as control
use Rattle.stream_grammar.specs.declared.data_ref.DataRef.{DataRef}
use Rattle.stream_grammar.specs.declared.data_ref.DataRef.TheVariants as data_ref
use Rattle.stream_grammar.specs.Names.{CommitIsh, Marked, Expression}
use Rattle.stream_grammar.specs.Acts.{ObjectCommand, BeginTag, TagTarget, Tagger}
use Rattle.stream_grammar.specs.Acts.{CommitCommand, Begin, Author, Committer, Encoding, Message, From, Merge}
use Rattle.stream_grammar.specs.Acts.{FileChange, Modify, ModifyInline, InlineData, Delete, Copy, Rename, DeleteAll}
use Rattle.stream_grammar.specs.Acts.{RefCommand, Reset, ResetFrom, Alias}
use Rattle.stream_grammar.specs.Acts.{ReplyCommand, GetMark, CatBlob, Ls, LsInCommit, Progress}
use Rattle.stream_grammar.specs.Acts.{Act, Wait, Commit, Change, Ref, Reply, Control}
use Rattle.stream_grammar.specs.Acts as acts
use Rattle.stream_grammar.proofs.Filled.{by_test}
use Rattle.open_commits.specs.declared.fault.Fault.{Fault as CommitFault}
use Rattle.open_commits.specs.declared.fault.Fault.TheVariants as commit_fault
use Rattle.open_commits.specs.OpenCommit.{OpenCommit, begun}
use Rattle.open_commits.specs.Changes.{all_deleted, contents_put, copied_to, deleted, modified, renamed_to}
use Rattle.open_commits.specs.Parents.{merged, started_from}
use Rattle.open_commits.specs.Showing.{commit_entry_shown}
use Rattle.stream_parts.specs.declared.branches.Tip.{Tip}
use Rattle.stream_parts.specs.declared.branches.Tip.TheVariants.{Unborn}
use Rattle.stream_parts.specs.declared.fault.Fault.{Fault}
use Rattle.stream_parts.specs.declared.fault.Fault.TheVariants as fault
use Rattle.stream_parts.specs.declared.headers.CommitHeader.{CommitHeader}
use Rattle.stream_parts.specs.declared.headers.InlineFile.{InlineFile}
use Rattle.stream_parts.specs.declared.headers.TagHeader.{TagHeader}
use Rattle.stream_parts.specs.OpenCommand.{OpenCommand, already_said, changes_in, commit_header_in, inline_in, reset_in, tag_header_in}
use Rattle.stream_parts.specs.OpenCommand as open_command
use Rattle.stream_parts.specs.Branches.{Branches, branch_set, commit_at, has_branch_room, tip_commit, tip_for, tip_of}
use Rattle.stream_parts.specs.Checkpoints.{fit}
use Rattle.git_model.specs.Results.{and_then, or_fault}
use Rattle.stream_parts.specs.Faults.{resolved_or}
use Rattle.stream_parts.specs.Marks.{Marks, found_mark, has_room, marked_name, referred_name, room_for}
use Rattle.stream_parts.specs.Printing.{shown_content, shown_object}
use Rattle.stream_parts.specs.Showing.{entry_shown, tree_in}
use Rattle.stream_parts.specs.Storing.{stored_or, with_content}
use Rattle.stream_parts.specs.Tags.{room_for_tag, tag_content, tag_limit, tagged_kind}
use Rattle.stream_commands.specs.Workspace.{Effect, Workspace, quiet, with_command}
use Rattle.stream_commands.specs.Lines.{in_changes, in_commit_header, in_tag_header}
use Rattle.stream_commands.specs.Faults.{changed_or}
use Rattle.stream_commands.specs.CommitIshes.{branch_or_expression, commit_in, is_branch, named_in, ref_in, start_in}
use Rattle.stream_commands.specs.Tags.{tag_stored, tagged}
use Rattle.stream_commands.specs.Objects.{object_stored}
use Rattle.import_session.specs.Commits.{begun_from, commit_merged, commit_opened, commit_said, commit_started, header_of}
use Rattle.import_session.specs.Changes.{file_stored, files_changed}
use Rattle.stream_commands.specs.Refs.{branch_placed, is_zeros, ref_set, tip_from}
use Rattle.stream_commands.specs.Replies.{branch_entry_shown, replied}
use Rattle.stream_commands.specs.Checkpoints.{saved_refs}
use Rattle.stream_commands.specs.Controls.{controlled}
use Rattle.import_session.specs.Meaning.{after_act}
use Rattle.session_laws.specs.Fitting.{Fits, FitsChange, FitsCommit, FitsObject, FitsRef, FitsReply, HasCommitter, HasTarget, IsChanging, IsCommit, IsInline, IsReset, IsTag, IsThere}

-- another refusal than that of a line whose command is not open
abbrev IsOther : Fault → Type 0
IsOther e = e ≢ fault.Text text_fault.UnknownCommand

abbrev Known : {A : Type 0} → Result A Fault → Type 0
Known r = IfErr r IsOther

then_known : {A B : Type 0} (r : Result A Fault) (next : A → Result B Fault) → Known r
    → ((value : A) → Known (next value)) → Known (and_then r next)
then_known (Ok value) next known later = later value
then_known (Err e) next known later = known

-- ---- the faults of what is looked up, changed and stored

changed_known : {A : Type 0} (r : Result A CommitFault) → Known (changed_or r)
changed_known (Ok value) = tt
changed_known (Err commit_fault.Memory) = λ is. cc
changed_known (Err e) = λ is. cc

resolved_known : {A : Type 0} (r : Result A RevisionFault) → Known (resolved_or r)
resolved_known (Ok value) = tt
resolved_known (Err revision_fault.Memory) = λ is. cc
resolved_known (Err e) = λ is. cc

stored_known : (digest : List ℕ → List ℕ) (content : Content) (os : List Object)
    → Known (with_content digest content os)
stored_known digest content os = by_fault (store_fault (name_by digest content) content os)
  where
    by_fault : (refusal : Option TableFault)
        → Known (stored_or (name_by digest content) content os refusal)
    by_fault None = tt
    by_fault (Some table_fault.Limit) = λ is. cc
    by_fault (Some table_fault.NameCollision) = λ is. cc
    by_fault (Some table_fault.Memory) = λ is. cc

or_known : {A : Type 0} (e : Fault) (found : Option A) → IsOther e → Known (or_fault e found)
or_known e None other = other
or_known e (Some value) other = tt

marked_known : (marks : Marks) (mark : ℕ) → Known (marked_name marks mark)
marked_known marks mark = by_found (lookup (nat_eq mark) marks)
  where
    by_found : (found : Option MarkedObject) → Known (found_mark found)
    by_found None = λ is. cc
    by_found (Some object) = tt

referred_known : (marks : Marks) (object : DataRef) → Known (referred_name marks object)
referred_known marks (data_ref.Mark mark) = marked_known marks mark
referred_known marks (data_ref.Name id) = tt

room_known : (marks : Marks) (mark : Option ℕ) → Known (room_for marks mark)
room_known marks None = tt
room_known marks (Some mark) =
    by_test (has_room marks mark) (λ room. rw room tt) (λ full. rw full (λ is. cc))

branch_known : (branches : Branches) (ref : List ℕ) (tip : Tip)
    → Known (branch_set branches ref tip)
branch_known branches ref tip =
    by_test (has_branch_room branches ref) (λ room. rw room tt) (λ full. rw full (λ is. cc))

named_known : (w : Workspace) (commit : CommitIsh) → Known (named_in w commit)
named_known w (Marked mark) = marked_known w.stream.marks mark
named_known w (Expression words) = by_tip (tip_of w.stream.branches (ref_in w words))
  where
    by_tip : (tip : Option Tip) → Known (branch_or_expression w words tip)
    by_tip None = resolved_known (resolved w.objects w.refs words)
    by_tip (Some tip) = or_known fault.UnknownRevision (commit_at tip) (λ is. cc)

commit_known : (w : Workspace) (commit : CommitIsh) → Known (commit_in w commit)
commit_known w commit =
    then_known (named_in w commit) _ (named_known w commit)
    (λ id. resolved_known (peeled w.objects kind.Commit id))

start_known : (w : Workspace) (ref : List ℕ) (from : CommitIsh) → Known (start_in w ref from)
start_known w ref from =
    by_test (is_branch w ref from) (λ is. rw is (λ e. cc)) (λ other. rw other (commit_known w from))

-- ---- lines of what is open

said_known : {A : Type 0} (said : Option A) → IsThere said → Known (already_said said)
said_known None there = absurd there
said_known (Some value) there = tt

commit_header_found : (command : OpenCommand OpenCommit) → IsCommit command
    → Known (commit_header_in command)
commit_header_found (open_command.Commit header) there = tt
commit_header_found _ there = absurd there

tag_header_found : (command : OpenCommand OpenCommit) → IsTag command
    → Known (tag_header_in command)
tag_header_found (open_command.Tag header) there = tt
tag_header_found _ there = absurd there

changes_found : (command : OpenCommand OpenCommit) → IsChanging command
    → Known (changes_in command)
changes_found (open_command.Changes commit) there = tt
changes_found _ there = absurd there

commit_header_known : (more : CommitHeader → CommitHeader) (w : Workspace)
    → IsCommit w.stream.command → Known (in_commit_header more w)
commit_header_known more w there =
    then_known (commit_header_in w.stream.command) _ (commit_header_found w.stream.command there)
    (λ header. tt)

tag_header_known : (more : TagHeader → TagHeader) (w : Workspace)
    → IsTag w.stream.command → Known (in_tag_header more w)
tag_header_known more w there =
    then_known (tag_header_in w.stream.command) _ (tag_header_found w.stream.command there)
    (λ header. tt)

open_known : (change : OpenCommit → Result OpenCommit Fault) (w : Workspace)
    → IsChanging w.stream.command
    → ((commit : OpenCommit) → Known (change commit)) → Known (in_changes change w)
open_known change w there known =
    then_known (changes_in w.stream.command) _ (changes_found w.stream.command there) (λ commit.
    then_known (change commit) _ (known commit) (λ next. tt))

inline_known : (file : InlineFile) (w : Workspace) (command : OpenCommand OpenCommit)
    → IsChanging command
    → Known (and_then (changes_in command) (λ commit.
    quiet (with_command w (open_command.Inline commit file))))
inline_known file w command there =
    then_known (changes_in command) _ (changes_found command there) (λ commit. tt)

tagged_known : (mark : Option ℕ) (header : TagHeader) (w : Workspace)
    → IsThere header.target → Known (tagged mark header w)
tagged_known mark header w there =
    then_known (already_said header.target) _ (said_known header.target there) (λ said.
    then_known (named_in w said) _ (named_known w said) (λ target.
    then_known (tagged_kind (kind_named target w.objects)) _ (by_kind (kind_named target w.objects))
    (λ target_kind. then_known (room_for w.stream.marks mark) _ (room_known w.stream.marks mark) (λ _.
    then_known (room_for_tag w.stream.tags) _ (by_test (nat_lt (length w.stream.tags) tag_limit)
    (λ room. rw room tt) (λ full. rw full (λ e. cc))) (λ _. tt)))))
  where
    by_kind : (k : Option Kind) → Known (tagged_kind k)
    by_kind None = λ e. cc
    by_kind (Some kind.Tree) = λ e. cc
    by_kind (Some kind.Commit) = tt
    by_kind (Some kind.Blob) = tt
    by_kind (Some kind.Tag) = tt

tag_known : (digest : List ℕ → List ℕ) (mark : Option ℕ) (message : List ℕ) (w : Workspace)
    (command : OpenCommand OpenCommit) → HasTarget command
    → Known (and_then (tag_header_in command) (λ header.
    tag_stored digest mark message header w))
tag_known digest mark message w (open_command.Tag header) there =
    then_known (tagged mark header w) _ (tagged_known mark header w there) (λ target.
    then_known (with_content digest (tag_content header message target.0 target.1) w.objects) _
    (stored_known digest (tag_content header message target.0 target.1) w.objects) (λ os. tt))
tag_known digest mark message w _ there = absurd there

begun_known : (os : List Object) (first : Option (List ℕ)) (commit : OpenCommit)
    → Known (begun_from os first commit)
begun_known os None commit = tt
begun_known os (Some id) commit = changed_known (started_from os id commit)

message_known : (mark : Option ℕ) (message : List ℕ) (w : Workspace)
    (command : OpenCommand OpenCommit) → HasCommitter command
    → Known (and_then (commit_header_in command) (λ said. commit_opened mark message said w))
message_known mark message w (open_command.Commit said) there =
    then_known (and_then (already_said said.committer) (λ committer.
    Ok (header_of mark said committer))) _
    (then_known (already_said said.committer) _ (said_known said.committer there)
    (λ committer. tt)) (λ header.
    then_known
    (branch_set w.stream.branches header.ref (tip_for (tip_commit w.stream.branches header.ref))) _
    (branch_known w.stream.branches header.ref (tip_for (tip_commit w.stream.branches header.ref)))
    (λ branches.
    then_known (begun_from w.objects (tip_commit w.stream.branches header.ref) (begun header message))
    _ (begun_known w.objects (tip_commit w.stream.branches header.ref) (begun header message))
    (λ opening. tt)))
message_known mark message w _ there = absurd there

file_known : (digest : List ℕ → List ℕ) (bytes : List ℕ) (w : Workspace)
    (command : OpenCommand OpenCommit) → IsInline command
    → Known (and_then (inline_in command) (λ inline.
    file_stored digest bytes inline.0 inline.1 w))
file_known digest bytes w (open_command.Inline commit file) there =
    then_known (changed_or (contents_put digest w.objects file.mode file.path bytes commit)) _
    (changed_known (contents_put digest w.objects file.mode file.path bytes commit)) (λ left. tt)
file_known digest bytes w _ there = absurd there

placed_known : (from : CommitIsh) (w : Workspace) (command : OpenCommand OpenCommit)
    → IsReset command
    → Known (and_then (reset_in command) (λ ref. branch_placed from ref w))
placed_known from w (open_command.Reset ref) there =
    then_known (tip_from w ref from) _ tip (λ tip. tt)
  where
    tip : Known (tip_from w ref from)
    tip = by_test (is_zeros from)
        (λ zeros. rw zeros tt)
        (λ other. rw other (then_known (start_in w ref from) _
        (start_known w ref from) (λ id. tt)))
placed_known from w _ there = absurd there

entry_known : (digest : List ℕ → List ℕ) (path : _) (w : Workspace)
    (command : OpenCommand OpenCommit) → IsChanging command
    → Known (and_then (changes_in command) (λ commit.
    branch_entry_shown digest path commit w))
entry_known digest path w command there =
    then_known (changes_in command) _ (changes_found command there) (λ commit.
    then_known (changed_or (commit_entry_shown digest w.objects commit.files path)) _
    (changed_known (commit_entry_shown digest w.objects commit.files path)) (λ shown. tt))

-- ---- the groups of commands

object_known : (digest : List ℕ → List ℕ) (command : ObjectCommand) (w : Workspace)
    → FitsObject command w → Known (object_stored digest command w)
unfolding object_stored
object_known digest (acts.Blob mark contents) w fits =
    then_known (room_for w.stream.marks mark) _ (room_known w.stream.marks mark) (λ _.
    then_known (with_content digest (content_from kind.Blob contents) w.objects) _
    (stored_known digest (content_from kind.Blob contents) w.objects) (λ os. tt))
object_known digest (BeginTag ref) w fits = tt
object_known digest (TagTarget target) w fits =
    tag_header_known (λ header. record header { target = Some target }) w fits
object_known digest (Tagger ident) w fits =
    tag_header_known (λ header. record header { tagger = Some ident }) w fits
object_known digest (acts.Tag mark message) w fits =
    tag_known digest mark message w w.stream.command fits

commit_line_known : (command : CommitCommand) (w : Workspace) → FitsCommit command w
    → Known (commit_said command w)
unfolding commit_said
commit_line_known (Begin ref) w fits = tt
commit_line_known (Author ident) w fits =
    commit_header_known (λ header. record header { author = Some ident }) w fits
commit_line_known (Committer ident) w fits =
    commit_header_known (λ header. record header { committer = Some ident }) w fits
commit_line_known (Encoding encoding) w fits =
    commit_header_known (λ header. record header { encoding = Some encoding }) w fits
commit_line_known (Message mark message) w fits =
    message_known mark message w w.stream.command fits
commit_line_known (From from) w fits =
    open_known (commit_started w from) w fits (λ commit.
    then_known (start_in w commit.header.ref from) _ (start_known w commit.header.ref from)
    (λ id. changed_known (started_from w.objects id commit)))
commit_line_known (Merge other) w fits =
    open_known (commit_merged w other) w fits (λ commit.
    then_known (commit_in w other) _ (commit_known w other) (λ id. changed_known (merged id commit)))

change_known : (digest : List ℕ → List ℕ) (change : FileChange) (w : Workspace)
    → FitsChange change w → Known (files_changed digest change w)
unfolding files_changed
change_known digest (Modify file_mode object path) w fits =
    open_known (λ commit. changed_or (modified w.objects w.stream.marks file_mode object path commit)) w fits
    (λ commit. changed_known (modified w.objects w.stream.marks file_mode object path commit))
change_known digest (ModifyInline file_mode path) w fits =
    inline_known (record { mode = file_mode; path = path }) w w.stream.command fits
change_known digest (InlineData bytes) w fits =
    file_known digest bytes w w.stream.command fits
change_known digest (Delete path) w fits =
    open_known (λ commit. Ok (deleted path commit)) w fits (λ commit. tt)
change_known digest (Copy source path) w fits =
    open_known (λ commit. changed_or (copied_to source path commit)) w fits
    (λ commit. changed_known (copied_to source path commit))
change_known digest (Rename source path) w fits =
    open_known (λ commit. changed_or (renamed_to source path commit)) w fits
    (λ commit. changed_known (renamed_to source path commit))
change_known digest DeleteAll w fits =
    open_known (λ commit. Ok (all_deleted commit)) w fits (λ commit. tt)

ref_known : (command : RefCommand) (w : Workspace) → FitsRef command w → Known (ref_set command w)
unfolding ref_set
ref_known (Reset ref) w fits =
    then_known (branch_set w.stream.branches (ref_in w ref) Unborn) _
    (branch_known w.stream.branches (ref_in w ref) Unborn) (λ branches. tt)
ref_known (ResetFrom from) w fits = placed_known from w w.stream.command fits
ref_known (Alias mark commit) w fits =
    then_known (commit_in w commit) _ (commit_known w commit) (λ id.
    then_known (room_for w.stream.marks (Some mark)) _ (room_known w.stream.marks (Some mark)) (λ _. tt))

object_shown_known : (id : List ℕ) (found : Option Content) → Known (shown_object id found)
object_shown_known id None = tt
object_shown_known id (Some content) = by_kind content.kind
  where
    by_kind : (k : Kind) → Known (shown_content id k content.bytes)
    by_kind kind.Blob = tt
    by_kind kind.Tree = λ e. cc
    by_kind kind.Commit = λ e. cc
    by_kind kind.Tag = λ e. cc

reply_known : (digest : List ℕ → List ℕ) (command : ReplyCommand) (w : Workspace)
    → FitsReply command w → Known (replied digest command w)
unfolding replied
reply_known digest (GetMark mark) w fits =
    then_known (marked_name w.stream.marks mark) _ (marked_known w.stream.marks mark) (λ id. tt)
reply_known digest (CatBlob object) w fits =
    then_known (referred_name w.stream.marks object) _ (referred_known w.stream.marks object) (λ id.
    then_known (shown_object id (object_named id w.objects)) _
    (object_shown_known id (object_named id w.objects)) (λ line. tt))
reply_known digest (Ls root path) w fits =
    then_known (entry_shown w.objects w.stream.marks root path) _
    (then_known (referred_name w.stream.marks root) _ (referred_known w.stream.marks root) (λ id.
    then_known (tree_in w.objects id) _
    (then_known (or_fault fault.ObjectUnknown (object_named id w.objects)) _
    (or_known fault.ObjectUnknown (object_named id w.objects) (λ e. cc))
    (λ _. resolved_known (peeled w.objects kind.Tree id))) (λ tree. tt))) (λ line. tt)
reply_known digest (LsInCommit path) w fits =
    entry_known digest path w w.stream.command fits
reply_known digest (Progress line) w fits = tt

control_known : (command : ControlCommand) (w : Workspace) → Known (controlled command w)
unfolding controlled
control_known control.Checkpoint w =
    by_test (fit (saved_refs w)) (λ few. rw few tt) (λ many. rw many (λ e. cc))
control_known control.Done w =
    by_test (fit (saved_refs w)) (λ few. rw few tt) (λ many. rw many (λ e. cc))
control_known (control.Feature wanted) w = tt
control_known (control.Head ref) w =
    by_test (bytes_eq ref (codes "HEAD")) (λ is. rw is (λ e. cc)) (λ other. rw other tt)

act_known : (digest : List ℕ → List ℕ) (act : Act) (w : Workspace) → Fits act w
    → Known (after_act digest act w)
unfolding after_act
act_known digest Wait w fits = tt
act_known digest (acts.Object command) w fits = object_known digest command w fits
act_known digest (Commit command) w fits = commit_line_known command w fits
act_known digest (Change change) w fits = change_known digest change w fits
act_known digest (Ref command) w fits = ref_known command w fits
act_known digest (Reply command) w fits = reply_known digest command w fits
act_known digest (Control command) w fits = control_known command w

pub not_refused : (digest : List ℕ → List ℕ) (act : Act) (w : Workspace) → Fits act w
    → after_act digest act w ≢ Err (fault.Text text_fault.UnknownCommand)
not_refused digest act w fits is = known (after_act digest act w) (act_known digest act w fits) is
  where
    known : (r : Result Effect Fault) → Known r → r ≢ Err (fault.Text text_fault.UnknownCommand)
    known (Ok effect) nothing is = cc
    known (Err e) other is = other (let same : e ≡ fault.Text text_fault.UnknownCommand = cc in same)

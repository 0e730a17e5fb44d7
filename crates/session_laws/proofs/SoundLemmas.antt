-- A running stream stays sound.
use Rattle.std.proofs.Common.{◌≡◌, ◌≢◌, ◌++◌, ◌≤◌, length, codes, ℕ, Bool, true, false, List, [], ◌∷◌, Option, Some, None, Result, Ok, Err, refl, sym, ap, ◌∙◌, subst, inl, inr, All}
use Rattle.std.specs.Prelude.{IfOk, IfSome, drop, unwrap_or}
use Rattle.std.specs.Option.{option_map}
use Rattle.std.specs.Str.{bytes_eq}
use Rattle.std.proofs.lemmas.Bool.{cond_both, false≢true}
use Rattle.std.proofs.lemmas.List.Elements.{All-nil, All-cons, All-push}
use Rattle.std.proofs.lemmas.Slice.Eq.{bytes_eq-Decides}
use Rattle.git_model.specs.declared.kind.Kind.{Kind}
use Rattle.git_model.specs.declared.kind.Kind.TheVariants as kind
use Rattle.git_model.specs.Content.{Content, content_from, name_by, no_content}
use Rattle.git_model.specs.GoodRepository.{AreObjects, IsShortRefName, StandsBefore}
use Rattle.git_model.specs.Ident.{IsWrittenIdent}
use Rattle.git_model.specs.ObjectName.{IsObjectName}
use Rattle.git_model.specs.RefName.{IsRefName}
use Rattle.git_model.specs.RefStore.{RefStore, no_refs}
use Rattle.git_model.specs.References.{reference, kind_named}
use Rattle.git_model.specs.Repository.{Object, Repository, object_named}
use Rattle.git_model.specs.Tag.{Tag, CanWriteTag}
use Rattle.git_model.specs.TagReading.{tag_read}
use Rattle.git_model.proofs.GoodRefs.{no_refs_are}
use Rattle.git_model.proofs.Growing.{none_are, taken_is}
use Rattle.git_model.proofs.TagReadings.{tag_back}
use Rattle.git_names.specs.Naming.{AnswersNames}
use Rattle.stream_lex.specs.Items.{Item}
use Rattle.stream_grammar.specs.declared.fault.Fault.{Fault as TextFault}
use Rattle.stream_grammar.specs.declared.feature.Feature.{Feature}
use Rattle.stream_grammar.specs.declared.feature.Feature.TheVariants as feature
use Rattle.stream_grammar.specs.declared.act.ControlCommand.TheVariants as control
use Rattle.stream_grammar.specs.declared.act.ControlCommand.{ControlCommand}
use Rattle.stream_grammar.specs.Acts.{ObjectCommand, Blob, BeginTag, TagTarget, Tagger}
use Rattle.stream_grammar.specs.Acts.{CommitCommand, Begin, Author, Committer, Encoding, Message, From, Merge}
use Rattle.stream_grammar.specs.Acts.{FileChange, Modify, ModifyInline, InlineData, Delete, Copy, Rename, DeleteAll}
use Rattle.stream_grammar.specs.Acts.{RefCommand, Reset, ResetFrom, Alias}
use Rattle.stream_grammar.specs.Acts.{ReplyCommand, GetMark, CatBlob, Ls, LsInCommit, Progress}
use Rattle.stream_grammar.specs.Acts.{Act, Wait, Commit, Change, Ref, Reply, Control}
use Rattle.stream_grammar.specs.Acts as acts
use Rattle.stream_grammar.specs.Commands.{Done, done_by, end_of}
use Rattle.stream_grammar.specs.Names.{CommitIsh}
use Rattle.stream_grammar.specs.WellFormed.{NamesShortRef, IsTagRef, IsWellFormed, IsWellFormedChange, IsWellFormedCommit, IsWellFormedControl, IsWellFormedObject, IsWellFormedRef}
use Rattle.stream_grammar.proofs.WellFormedActs.{well_formed}
use Rattle.stream_parts.specs.declared.branches.Tip.{Tip}
use Rattle.stream_parts.specs.declared.branches.Tip.TheVariants.{Unborn}
use Rattle.stream_parts.specs.declared.fault.Fault.{Fault}
use Rattle.stream_parts.specs.declared.headers.CommitHeader.{CommitHeader}
use Rattle.stream_parts.specs.declared.headers.TagHeader.{TagHeader}
use Rattle.stream_parts.specs.declared.headers.InlineFile.{InlineFile}
use Rattle.git_model.specs.Results.{and_then}
use Rattle.git_model.proofs.Readables.{objects_are}
use Rattle.stream_parts.specs.Faults.{text_first}
use Rattle.stream_commands.specs.Faults.{changed_or}
use Rattle.stream_parts.specs.Branches.{Branches, branch_set, has_branch_room, head_in, ref_meant, with_branch, tip_commit, tip_for}
use Rattle.stream_parts.specs.Marks.{marked_name, referred_name, room_for, with_mark}
use Rattle.stream_parts.specs.Headers.{new_commit_header, new_tag_header}
use Rattle.stream_parts.specs.OpenCommand.{OpenCommand, already_said, changes_in, commit_header_in, inline_in, reset_in, tag_header_in}
use Rattle.stream_parts.specs.OpenCommand as open_command
use Rattle.stream_commands.specs.Workspace.{Workspace, Effect, opened, quiet, with_command}
use Rattle.stream_commands.specs.CommitIshes.{commit_in, named_in, start_in, ref_in}
use Rattle.stream_commands.specs.Lines.{in_changes, in_commit_header, in_tag_header}
use Rattle.stream_commands.specs.Refs.{alias_set, branch_placed, branch_unborn, is_zeros, ref_set, tip_from}
use Rattle.stream_parts.specs.Storing.{with_content}
use Rattle.stream_parts.specs.Tags.{room_for_tag, tag_content, tagged_kind}
use Rattle.stream_commands.specs.Objects.{blob_stored, object_stored}
use Rattle.stream_commands.specs.Tags.{tag_made, tag_stored, tagged}
use Rattle.stream_parts.specs.Checkpoints.{fit}
use Rattle.stream_commands.specs.Checkpoints.{checkpoint, saved_refs}
use Rattle.stream_parts.specs.Printing.{shown_object}
use Rattle.stream_commands.specs.Controls.{controlled, feature_set, head_set}
use Rattle.import_session.specs.Meaning.{after_act}
use Rattle.git_paths.specs.Paths.{IsPath}
use Rattle.file_maps.specs.FileMap.{Path}
use Rattle.open_commits.specs.declared.fault.Fault.{Fault as CommitFault}
use Rattle.open_commits.specs.Changes.{all_deleted, contents_put, copied_to, deleted, renamed_to}
use Rattle.open_commits.specs.GoodCommits.{GrowGood}
use Rattle.open_commits.specs.OpenCommit.{Header, OpenCommit as Opened, begun}
use Rattle.open_commits.specs.Showing.{Shown, commit_entry_shown}
use Rattle.open_commits.proofs.FitCommits.{entry_fits}
use Rattle.open_commits.proofs.GoodCommits.{entry_keeps}
use Rattle.import_session.specs.Changes.{file_stored, files_changed}
use Rattle.stream_commands.specs.Replies.{branch_entry_shown, commit_entry_line, replied}
use Rattle.import_session.specs.Commits.{begun_from, closed_where, commit_merged, commit_opened, commit_said, commit_started, header_of, header_said}
use Rattle.import_session.specs.Opening.{opened_with}
use Rattle.stream_commands.specs.Printing.{prints}
use Rattle.session_laws.proofs.SoundChanges.{IsReady, LeavesOpen, begun_open, cleared_open, commit_merged_open, commit_started_open, command_grown, contents_open, copied_open, deleted_open, modified_open, renamed_open}
use Rattle.import_session.specs.Sound.{IsCommitHeader, IsStreamBranch, IsOpen, IsPending, IsSound, IsSoundCommand, IsSoundRepository, IsTagHeader, IsTip}
use Rattle.stream_parts.specs.Showing.{entry_shown}
use Rattle.import_session.specs.Stream.{Running, Step, commands_end, last_checkpoint, session_end, step, taken, unless_done_missing}
use Rattle.import_session.proofs.SoundCommits.{IsCommitOf, by_test, commit_good, start_good, then_any, then_good, tip_commit_is}
use Rattle.import_session.proofs.SoundEnds.{branch_keeps, branches_longer, from_ok, grown_by, marks_longer, marks_with, refs_grown, tags_grown, where_keeps}
use Rattle.session_laws.proofs.SoundRefs.{refs_whole, saved_are}
use Rattle.tenant_tables.proofs.StoredGood.{Grows, Holds, there}
use Rattle.session_laws.proofs.SoundObjects.{IsStorable, content_good}
use Rattle.session_laws.proofs.StepLemmas.{step_leaves}
use Rattle.session_laws.proofs.SoundTrees.{both_ok, content_fits, contents_left, fits_taken}
use Rattle.tenant_tables.specs.Sums.{TreesFit}

-- What an act leaves is sound.
abbrev pub LeavesSound : (List ℕ → List ℕ) → Effect → Type 0
LeavesSound digest effect = IsSound digest effect.workspace

-- ---- the first workspace, and what a checkpoint leaves

pub empty_is_sound : (digest : List ℕ → List ℕ)
    → IsSoundRepository digest (record { objects = []; refs = no_refs })
empty_is_sound digest = record { objects = none_are digest; trees = tt; refs = no_refs_are [] }

pub new_is_sound : (digest : List ℕ → List ℕ) (repository : Repository)
    → IsSoundRepository digest repository → IsSound digest (opened repository)
new_is_sound digest repository good = record {
  objects = good.objects;
  trees = good.trees;
  refs = refs_whole repository.objects repository.refs good.refs;
  next_head = tt;
  marks = All-nil _;
  branches = All-nil _;
  tags = All-nil _;
  command = tt;
}

pub checkpoint_is_sound : (digest : List ℕ → List ℕ) (workspace : Workspace)
    → IsSound digest workspace → IsSoundRepository digest (last_checkpoint workspace)
checkpoint_is_sound digest workspace sound = record {
  objects = taken_is digest workspace.objects workspace.committed sound.objects;
  trees = fits_taken workspace.committed [] workspace.objects sound.trees;
  refs = sound.refs;
}

-- the kind of an object that is held
held_kind : (os : List Object) (id : List ℕ) (content : Content) → object_named id os ≡ Some content
    → kind_named id os ≡ Some content.kind
held_kind os id content held = ap (option_map (λ (c : Content). c.kind)) held

-- a content is held, and all trees fit
abbrev HoldsFitting : (List ℕ → List ℕ) → List Object → Content → List Object → Type 0
HoldsFitting digest os content objects = Holds digest os objects content × TreesFit [] objects

-- ---- more objects, and a mark

objects_keep : (digest : List ℕ → List ℕ) (workspace : Workspace) (objects : List Object)
    → IsSound digest workspace → Grows workspace.objects objects → AreObjects digest objects
    → TreesFit [] objects → IsSound digest (record workspace { objects = objects })
objects_keep digest workspace objects sound grows good fits = record {
  objects = good;
  trees = fits;
  refs = refs_grown workspace.objects objects grows workspace.committed workspace.refs sound.refs;
  next_head = sound.next_head;
  marks = marks_longer workspace.objects objects grows workspace.stream.marks sound.marks;
  branches = branches_longer workspace.objects objects grows workspace.stream.branches sound.branches;
  tags = tags_grown workspace.objects objects grows workspace.stream.tags sound.tags;
  command = command_grown workspace.objects objects grows workspace.stream.command sound.command;
}

mark_keeps : (digest : List ℕ → List ℕ) (workspace : Workspace) (mark : Option ℕ) (k : Kind)
    (id : List ℕ) → IsSound digest workspace → kind_named id workspace.objects ≡ Some k
    → IsSound digest (record workspace {
      stream = record workspace.stream { marks = with_mark workspace.stream.marks mark k id };
    })
mark_keeps digest workspace mark k id sound stands = record {
  objects = sound.objects;
  trees = sound.trees;
  refs = sound.refs;
  next_head = sound.next_head;
  marks = marks_with workspace.objects workspace.stream.marks mark k id sound.marks stands;
  branches = sound.branches;
  tags = sound.tags;
  command = sound.command;
}

-- an object that a mark is set to is stored
stored_keeps : (digest : List ℕ → List ℕ) (workspace : Workspace) (mark : Option ℕ)
    (content : Content) (objects : List Object) → IsSound digest workspace
    → HoldsFitting digest workspace.objects content objects
    → IsSound digest (record workspace {
      objects = objects;
      stream = record workspace.stream {
        marks = with_mark workspace.stream.marks mark content.kind (name_by digest content);
      };
    })
stored_keeps digest workspace mark content objects sound both =
    mark_keeps digest (record workspace { objects = objects }) mark content.kind
    (name_by digest content)
    (objects_keep digest workspace objects sound both.0.grows both.0.good both.1)
    (held_kind objects (name_by digest content) content both.0.held)

-- ---- blobs

blob_keeps : (digest : List ℕ → List ℕ) → AnswersNames digest → (workspace : Workspace)
    → IsSound digest workspace → (mark : Option ℕ) (bytes : List ℕ)
    → IfOk (blob_stored digest mark (content_from kind.Blob bytes) workspace) (LeavesSound digest)
blob_keeps digest names workspace sound mark bytes =
    let content = content_from kind.Blob bytes in
    then_any (LeavesSound digest) (room_for workspace.stream.marks mark) _ (λ _.
    then_good (HoldsFitting digest workspace.objects content) (LeavesSound digest)
    (with_content digest content workspace.objects) _
    (both_ok (λ objects. Holds digest workspace.objects objects content) (TreesFit []) _
    (content_good digest names workspace.objects sound.objects content
    (record { valid = tt; connected = All-nil _ }))
    (content_fits digest workspace.objects sound.trees content (λ tree. cc)))
    (λ objects both. stored_keeps digest workspace mark content objects sound both))

-- ---- refs

-- what is not `HEAD` is a ref name
no_head : (ref : List ℕ) → NamesShortRef ref → bytes_eq ref (codes "HEAD") ≡ false
    → IsShortRefName ref
no_head ref names other = elim names.name [
  | inl name ↦ record { name = name; short = names.short }
  | inr head ↦
      absurd (false≢true (sym other ∙ (bytes_eq-Decides ref (codes "HEAD")).1 head))
]

head_named : (head : Option (List ℕ)) (refs : RefStore) → IfSome head IsShortRefName
    → IsShortRefName refs.head → IsShortRefName (head_in head refs)
head_named None refs next saved = saved
head_named (Some ref) refs next saved = next

meant_named : (workspace : Workspace) (digest : List ℕ → List ℕ) → IsSound digest workspace
    → (ref : List ℕ) → NamesShortRef ref
    → IsShortRefName (ref_meant workspace.stream.head workspace.refs ref)
unfolding ref_meant
meant_named workspace digest sound ref names =
    by_test (bytes_eq ref (codes "HEAD"))
    (λ is. rw is (head_named workspace.stream.head workspace.refs sound.next_head sound.refs.head))
    (λ other. rw other (no_head ref names other))

-- ---- the open command

branches_keep : (digest : List ℕ → List ℕ) (workspace : Workspace) (branches : Branches)
    (command : OpenCommand Opened) → IsSound digest workspace
    → All (IsStreamBranch workspace.objects) branches → IsSoundCommand workspace.objects command
    → IsSound digest (record workspace {
      stream = record workspace.stream { branches = branches; command = command };
    })
branches_keep digest workspace branches command sound good is = record {
  objects = sound.objects;
  trees = sound.trees;
  refs = sound.refs;
  next_head = sound.next_head;
  marks = sound.marks;
  branches = good;
  tags = sound.tags;
  command = is;
}

command_keeps : (digest : List ℕ → List ℕ) (workspace : Workspace) (command : OpenCommand Opened)
    → IsSound digest workspace → IsSoundCommand workspace.objects command
    → IsSound digest (with_command workspace command)
command_keeps digest workspace command sound is =
    branches_keep digest workspace workspace.stream.branches command sound sound.branches is

tag_header_is : (os : List Object) (command : OpenCommand Opened) → IsSoundCommand os command
    → IfOk (tag_header_in command) IsTagHeader
tag_header_is os (open_command.Tag header) is = is
tag_header_is os _ is = tt

commit_header_is : (os : List Object) (command : OpenCommand Opened) → IsSoundCommand os command
    → IfOk (commit_header_in command) IsCommitHeader
commit_header_is os (open_command.Commit header) is = is
commit_header_is os _ is = tt

changes_are : (os : List Object) (command : OpenCommand Opened) → IsSoundCommand os command
    → IfOk (changes_in command) (IsOpen os)
changes_are os (open_command.Changes commit) is = is
changes_are os _ is = tt

-- ---- branches

branch_set_keeps : (os : List Object) (branches : Branches) (ref : List ℕ) (tip : Tip)
    → All (IsStreamBranch os) branches → IsStreamBranch os (ref, tip)
    → IfOk (branch_set branches ref tip) (All (IsStreamBranch os))
branch_set_keeps os branches ref tip good new =
    by_test (has_branch_room branches ref)
    (λ room. rw room (branch_keeps os branches ref tip good new))
    (λ full. rw full tt)

reset_keeps : (digest : List ℕ → List ℕ) (workspace : Workspace) → IsSound digest workspace
    → (ref : List ℕ) → NamesShortRef ref
    → IfOk (branch_unborn (ref_in workspace ref) workspace) (LeavesSound digest)
reset_keeps digest workspace sound ref names =
    let meant = ref_meant workspace.stream.head workspace.refs ref in
    let name = meant_named workspace digest sound ref names in
    then_good (All (IsStreamBranch workspace.objects)) (LeavesSound digest)
    (branch_set workspace.stream.branches meant Unborn) _
    (branch_set_keeps workspace.objects workspace.stream.branches meant Unborn sound.branches
    (record { name = name; tip = tt }))
    (λ branches good. branches_keep digest workspace branches (open_command.Reset meant) sound good
    name)

-- 'from' in a reset
tip_good : (digest : List ℕ → List ℕ) (workspace : Workspace) → IsSound digest workspace
    → (ref : List ℕ) (from : CommitIsh)
    → IfOk (tip_from workspace ref from) (IsTip workspace.objects)
tip_good digest workspace sound ref from =
    by_test (is_zeros from)
    (λ zeros. rw zeros tt)
    (λ other. rw other (
    then_good (IsCommitOf workspace.objects) (IsTip workspace.objects) (start_in workspace ref from) _
    (start_good digest workspace (objects_are _ _ sound.objects) ref from) (λ id stands. stands)))

placed_at : (digest : List ℕ → List ℕ) (workspace : Workspace) → IsSound digest workspace
    → (from : CommitIsh) (command : OpenCommand Opened) → IsSoundCommand workspace.objects command
    → IfOk (and_then (reset_in command) (λ ref. branch_placed from ref workspace))
    (LeavesSound digest)
placed_at digest workspace sound from (open_command.Reset ref) name =
    then_good (IsTip workspace.objects) (LeavesSound digest) (tip_from workspace ref from) _
    (tip_good digest workspace sound ref from)
    (λ tip stands. branches_keep digest workspace (with_branch workspace.stream.branches ref tip)
    open_command.Nothing sound
    (branch_keeps workspace.objects workspace.stream.branches ref tip sound.branches
    (record { name = name; tip = stands })) tt)
placed_at digest workspace sound from _ is = tt

-- ---- aliases

alias_keeps : (digest : List ℕ → List ℕ) (workspace : Workspace) → IsSound digest workspace
    → (mark : ℕ) (commit : CommitIsh) → IfOk (alias_set mark commit workspace) (LeavesSound digest)
alias_keeps digest workspace sound mark commit =
    then_good (IsCommitOf workspace.objects) (LeavesSound digest) (commit_in workspace commit) _
    (commit_good digest workspace (objects_are _ _ sound.objects) commit) (λ id stands.
    then_any (LeavesSound digest) (room_for workspace.stream.marks (Some mark)) _
    (λ _. mark_keeps digest workspace (Some mark) kind.Commit id sound stands))

-- ---- tags

tag_header_keeps : (digest : List ℕ → List ℕ) (workspace : Workspace) → IsSound digest workspace
    → (more : TagHeader → TagHeader)
    → ((header : TagHeader) → IsTagHeader header → IsTagHeader (more header))
    → IfOk (in_tag_header more workspace) (LeavesSound digest)
tag_header_keeps digest workspace sound more keeps =
    then_good IsTagHeader (LeavesSound digest) (tag_header_in workspace.stream.command) _
    (tag_header_is workspace.objects workspace.stream.command sound.command) (λ header is.
    command_keeps digest workspace (open_command.Tag (more header)) sound (keeps header is))

new_tag : (ref : List ℕ) → IsTagRef ref → IsTagHeader (new_tag_header ref)
new_tag ref is = record { ref = is; tagger = tt }

-- what is tagged is there, and is no tree
pub record IsTagged (os : List Object) (target : List ℕ) (target_kind : Kind) : Type 0 where
  pub stands : kind_named target os ≡ Some target_kind
  pub no_tree : target_kind ≢ kind.Tree

kind_tagged : (os : List Object) (target : List ℕ) (k : Option Kind) → kind_named target os ≡ k
    → IfOk (tagged_kind k) (IsTagged os target)
kind_tagged os target None e = tt
kind_tagged os target (Some kind.Tree) e = tt
kind_tagged os target (Some kind.Commit) e = record { stands = e; no_tree = λ same. cc }
kind_tagged os target (Some kind.Blob) e = record { stands = e; no_tree = λ same. cc }
kind_tagged os target (Some kind.Tag) e = record { stands = e; no_tree = λ same. cc }

-- the tag that is made
abbrev tag_from : TagHeader → List ℕ → List ℕ → Kind → Tag
tag_from header message target target_kind = record {
  target = target;
  kind = target_kind;
  name = drop (length (codes "refs/tags/")) header.ref_name;
  tagger = header.tagger;
  message = message;
}

ref_spelt : (header : TagHeader) → IsTagHeader header
    → header.ref_name ≡ codes "refs/tags/" ++ drop (length (codes "refs/tags/")) header.ref_name
ref_spelt header well =
    let begins = well.ref.tag in
    begins.1 ∙ ap (λ (rest : List ℕ). codes "refs/tags/" ++ rest)
    (sym (ap (λ (ref : List ℕ). drop 10 ref) begins.1))

tag_can : (header : TagHeader) (message target : List ℕ) (target_kind : Kind) → IsTagHeader header
    → IsObjectName target → target_kind ≢ kind.Tree
    → CanWriteTag (tag_from header message target target_kind)
tag_can header message target target_kind well name no_tree =
    record {
      target = name;
      kind = no_tree;
      name = subst IsRefName (ref_spelt header well) well.ref.name.name;
      tagger = well.tagger;
    }

tag_written : (digest : List ℕ → List ℕ) (os : List Object) → AreObjects digest os
    → (header : TagHeader) (message target : List ℕ) (target_kind : Kind) → IsTagHeader header
    → IsTagged os target target_kind
    → CanWriteTag (tag_from header message target target_kind)
tag_written digest os good header message target target_kind well tagged =
    tag_can header message target target_kind well
    (there digest os good target target_kind tagged.stands).name tagged.no_tree

-- it waits under its own name
tag_held : (header : TagHeader) (message target : List ℕ) (target_kind : Kind) → IsTagHeader header
    → CanWriteTag (tag_from header message target target_kind)
    → (os : List Object) (id : List ℕ)
    → object_named id os ≡ Some (tag_content header message target target_kind)
    → IsPending os (header.ref_name, id)
tag_held header message target target_kind well can os id held = record {
  name = well.ref.name;
  named = (
    drop (length (codes "refs/tags/")) header.ref_name,
    ref_spelt header well,
    (
      ap (λ (o : Option Content). option_map (λ (c : Content). c.kind) o) held,
      ap (λ (o : Option Content). (tag_read (unwrap_or o no_content).bytes).name) held
          ∙ ap (λ (t : Tag). t.name) (tag_back (tag_from header message target target_kind) can),
    ),
  );
}

tag_storable : (digest : List ℕ → List ℕ) (os : List Object) → AreObjects digest os
    → (header : TagHeader) (message target : List ℕ) (target_kind : Kind) → IsTagHeader header
    → IsTagged os target target_kind
    → IsStorable os (tag_content header message target target_kind)
tag_storable digest os good header message target target_kind well tagged =
    let stands = there digest os good target target_kind tagged.stands in
    let tag = tag_from header message target target_kind in
    let can = tag_written digest os good header message target target_kind well tagged in
    record {
      valid = (
        tag,
        record {
          writable = can;
          contents = refl;
          short_name = subst (λ (ref : List ℕ). length ref ≤ 1024) (ref_spelt header well) well.ref.name.short;
        },
      );
      connected = subst (λ (t : Tag). All (StandsBefore os (length os)) (reference t.kind t.target ∷ []))
          (sym (tag_back tag can))
          (All-cons (StandsBefore os (length os)) (reference target_kind target) []
          (record { before = stands.before; kind = tagged.stands })
          (All-nil (StandsBefore os (length os))));
    }

tagged_good : (workspace : Workspace) (mark : Option ℕ) (header : TagHeader)
    → IfOk (tagged mark header workspace) (λ target. IsTagged workspace.objects target.0 target.1)
tagged_good workspace mark header =
    let P : List ℕ × Kind → Type 0 = λ target. IsTagged workspace.objects target.0 target.1 in
    then_any P (already_said header.target) _ (λ said.
    then_any P (named_in workspace said) _ (λ target.
    then_good (IsTagged workspace.objects target) P
    (tagged_kind (kind_named target workspace.objects)) _
    (kind_tagged workspace.objects target (kind_named target workspace.objects) refl)
    (λ target_kind is_tagged.
    then_any P (room_for workspace.stream.marks mark) _ (λ _.
    then_any P (room_for_tag workspace.stream.tags) _ (λ _. is_tagged)))))

tag_keeps : (digest : List ℕ → List ℕ) → AnswersNames digest → (workspace : Workspace)
    → IsSound digest workspace → (mark : Option ℕ) (message : List ℕ)
    (header : TagHeader) → IsTagHeader header
    → IfOk (tag_stored digest mark message header workspace) (LeavesSound digest)
tag_keeps digest names workspace sound mark message header well =
    then_good (λ (target : List ℕ × Kind). IsTagged workspace.objects target.0 target.1)
    (LeavesSound digest)
    (tagged mark header workspace) _ (tagged_good workspace mark header)
    (λ target is. made target.0 target.1 is)
  where
    made : (target : List ℕ) (target_kind : Kind)
        → IsTagged workspace.objects target target_kind
        → IfOk (tag_made digest mark header.ref_name (tag_content header message target target_kind)
        workspace) (LeavesSound digest)
    made target target_kind tagged =
        let os = workspace.objects in
        let content = tag_content header message target target_kind in
        let storable = tag_storable digest os sound.objects header message target target_kind well
        tagged in
        let can = tag_written digest os sound.objects header message target target_kind well tagged in
        then_good (HoldsFitting digest workspace.objects content) (LeavesSound digest)
        (with_content digest content workspace.objects) _
        (both_ok (λ objects. Holds digest workspace.objects objects content) (TreesFit []) _
        (content_good digest names workspace.objects sound.objects content storable)
        (content_fits digest workspace.objects sound.trees content (λ tree. cc)))
        (λ objects both. let kept = stored_keeps digest workspace mark content objects sound both in
        record {
          objects = kept.objects;
          trees = kept.trees;
          refs = kept.refs;
          next_head = kept.next_head;
          marks = kept.marks;
          branches = kept.branches;
          tags = All-push (IsPending objects) workspace.stream.tags
              (header.ref_name, name_by digest content) kept.tags
              (tag_held header message target target_kind well can objects (name_by digest content)
              both.0.held);
          command = tt;
        })

tag_ends : (digest : List ℕ → List ℕ) → AnswersNames digest → (workspace : Workspace)
    → IsSound digest workspace → (mark : Option ℕ) (message : List ℕ)
    (command : OpenCommand Opened) → IsSoundCommand workspace.objects command
    → IfOk (and_then (tag_header_in command) (λ header.
    tag_stored digest mark message header workspace)) (LeavesSound digest)
tag_ends digest names workspace sound mark message command is =
    then_good IsTagHeader (LeavesSound digest) (tag_header_in command) _
    (tag_header_is workspace.objects command is)
    (λ header well. tag_keeps digest names workspace sound mark message header well)

-- ---- checkpoints

checkpoint_keeps : (digest : List ℕ → List ℕ) (workspace : Workspace) → IsSound digest workspace
    → IfOk (checkpoint workspace) (LeavesSound digest)
checkpoint_keeps digest workspace sound =
    by_test (fit (saved_refs workspace))
    (λ few. rw few (record {
      objects = sound.objects;
      trees = sound.trees;
      refs = refs_whole workspace.objects (saved_refs workspace) (saved_are digest workspace sound few);
      next_head = tt;
      marks = sound.marks;
      branches = sound.branches;
      tags = All-nil _;
      command = sound.command;
    }))
    (λ many. rw many tt)

-- ---- what sets and what prints

switches_keep : (digest : List ℕ → List ℕ) (workspace : Workspace) (forces needs_done : Bool)
    → IsSound digest workspace
    → IsSound digest (record workspace {
      stream = record workspace.stream { forces = forces; needs_done = needs_done };
    })
switches_keep digest workspace forces needs_done sound = record {
  objects = sound.objects;
  trees = sound.trees;
  refs = sound.refs;
  next_head = sound.next_head;
  marks = sound.marks;
  branches = sound.branches;
  tags = sound.tags;
  command = sound.command;
}

feature_keeps : (digest : List ℕ → List ℕ) (workspace : Workspace) → IsSound digest workspace
    → (wanted : Feature) → IsSound digest (feature_set wanted workspace)
feature_keeps digest workspace sound feature.Done =
    switches_keep digest workspace workspace.stream.forces true sound
feature_keeps digest workspace sound feature.Force =
    switches_keep digest workspace true workspace.stream.needs_done sound
feature_keeps digest workspace sound _ = sound

head_keeps : (digest : List ℕ → List ℕ) (workspace : Workspace) → IsSound digest workspace
    → (ref : List ℕ) → IsShortRefName ref → IfOk (head_set ref workspace) (LeavesSound digest)
head_keeps digest workspace sound ref name =
    by_test (bytes_eq ref (codes "HEAD"))
    (λ is. rw is tt)
    (λ other. rw other (record {
      objects = sound.objects;
      trees = sound.trees;
      refs = sound.refs;
      next_head = name;
      marks = sound.marks;
      branches = sound.branches;
      tags = sound.tags;
      command = sound.command;
    }))

-- a commit opens
first_tip : (os : List Object) (first : Option (List ℕ)) → IfSome first (IsCommitOf os)
    → IsTip os (tip_for first)
first_tip os None is = tt
first_tip os (Some id) is = is

opened_keeps : (digest : List ℕ → List ℕ) (workspace : Workspace) → IsSound digest workspace
    → (message : List ℕ) (header : Header) → IsReady header
    → IfOk (opened_with workspace message header) (LeavesSound digest)
opened_keeps digest workspace sound message header ready =
    let os = workspace.objects in
    let first = tip_commit workspace.stream.branches header.ref in
    let is = tip_commit_is digest workspace sound header.ref in
    then_good (All (IsStreamBranch os)) (LeavesSound digest)
    (branch_set workspace.stream.branches header.ref (tip_for first)) _
    (branch_set_keeps os workspace.stream.branches header.ref (tip_for first) sound.branches
    (record { name = ready.ref; tip = first_tip os first is }))
    (λ branches all. then_good (IsOpen os) (LeavesSound digest)
    (begun_from os first (begun header message)) _
    (begun_open digest os sound.objects header message ready first is)
    (λ commit good.
    branches_keep digest workspace branches (open_command.Changes commit) sound all good))

header_can : (mark : Option ℕ) (said : CommitHeader) → IsCommitHeader said
    → (committer : Option (List ℕ)) → IfSome committer IsWrittenIdent
    → IfOk (and_then (already_said committer) (λ committer. Ok (header_of mark said committer))) IsReady
header_can mark said well None can = tt
header_can mark said well (Some committer) can = record {
  ref = well.ref;
  can = record { author = well.author; committer = can; encoding = well.encoding };
}

commit_keeps : (digest : List ℕ → List ℕ) (workspace : Workspace) → IsSound digest workspace
    → (mark : Option ℕ) (message : List ℕ) (command : OpenCommand Opened)
    → IsSoundCommand workspace.objects command
    → IfOk (and_then (commit_header_in command) (λ said.
    commit_opened mark message said workspace)) (LeavesSound digest)
commit_keeps digest workspace sound mark message command is =
    then_good IsCommitHeader (LeavesSound digest) (commit_header_in command) _
    (commit_header_is workspace.objects command is) (λ said well.
    then_good IsReady (LeavesSound digest) (header_said mark said) _
    (header_can mark said well said.committer well.committer)
    (λ header ready. opened_keeps digest workspace sound message header ready))

commit_header_keeps : (digest : List ℕ → List ℕ) (workspace : Workspace)
    → IsSound digest workspace → (more : CommitHeader → CommitHeader)
    → ((header : CommitHeader) → IsCommitHeader header → IsCommitHeader (more header))
    → IfOk (in_commit_header more workspace) (LeavesSound digest)
commit_header_keeps digest workspace sound more keeps =
    then_good IsCommitHeader (LeavesSound digest) (commit_header_in workspace.stream.command) _
    (commit_header_is workspace.objects workspace.stream.command sound.command) (λ header is.
    command_keeps digest workspace (open_command.Commit (more header)) sound (keeps header is))

contents_sound : (digest : List ℕ → List ℕ) → AnswersNames digest → (workspace : Workspace)
    → IsSound digest workspace → (bytes : List ℕ) (command : OpenCommand Opened)
    → IsSoundCommand workspace.objects command
    → IfOk (and_then (inline_in command) (λ inline.
    file_stored digest bytes inline.0 inline.1 workspace)) (LeavesSound digest)
contents_sound digest names workspace sound bytes (open_command.Inline commit file) is =
    let os = workspace.objects in
    then_good (λ left. LeavesOpen digest os left × TreesFit [] left.objects) (LeavesSound digest)
    (changed_or (contents_put digest os file.mode file.path bytes commit)) _
    (both_ok (LeavesOpen digest os) (λ left. TreesFit [] left.objects) _
    (contents_open digest names os sound.objects commit is.0 file.mode file.path is.1 bytes)
    (contents_left digest os sound.trees commit file.mode file.path bytes))
    (λ left both. let good = both.0 in
    command_keeps digest (record workspace { objects = left.objects })
    (open_command.Changes left.commit)
    (objects_keep digest workspace left.objects sound (grown_by digest os left.objects good.grows)
    good.grows.good both.1) good.open_commit)
contents_sound digest names workspace sound bytes _ is = tt

entry_sound : (digest : List ℕ → List ℕ) → AnswersNames digest → (workspace : Workspace)
    → IsSound digest workspace → (path : Path) (command : OpenCommand Opened)
    → IsSoundCommand workspace.objects command
    → IfOk (and_then (changes_in command) (λ commit.
    branch_entry_shown digest path commit workspace)) (LeavesSound digest)
entry_sound digest names workspace sound path (open_command.Changes commit) is =
    by_shown (commit_entry_shown digest workspace.objects commit.files path)
    (λ shown e. entry_keeps digest names workspace.objects sound.objects commit is.good is.files path
    shown e)
    (λ shown e. entry_fits digest names workspace.objects sound.objects sound.trees commit is.good
    is.files path shown e)
  where
    by_shown : (r : Result Shown CommitFault)
        → ((shown : Shown) → r ≡ Ok shown → GrowGood digest workspace.objects shown.objects)
        → ((shown : Shown) → r ≡ Ok shown → TreesFit [] shown.objects)
        → IfOk (and_then (changed_or r) (λ shown.
        prints (record workspace { objects = shown.objects }) (commit_entry_line path shown.entry)))
        (LeavesSound digest)
    by_shown (Err e) good fit = tt
    by_shown (Ok shown) good fit =
        let grows = good shown refl in
        objects_keep digest workspace shown.objects sound
        (grown_by digest workspace.objects shown.objects grows) grows.good (fit shown refl)
entry_sound digest names workspace sound path _ is = tt

-- the open commit changes
commit_changed : (digest : List ℕ → List ℕ) (workspace : Workspace) → IsSound digest workspace
    → (change : Opened → Result Opened Fault)
    → ((commit : Opened) → IsOpen workspace.objects commit
    → IfOk (change commit) (IsOpen workspace.objects))
    → IfOk (in_changes change workspace) (LeavesSound digest)
commit_changed digest workspace sound change keeps =
    then_good (IsOpen workspace.objects) (LeavesSound digest) (changes_in workspace.stream.command) _
    (changes_are workspace.objects workspace.stream.command sound.command) (λ commit is.
    then_good (IsOpen workspace.objects) (LeavesSound digest) (change commit) _ (keeps commit is)
    (λ next good. command_keeps digest workspace (open_command.Changes next) sound good))

-- a file of it waits for its data
inline_waits : (digest : List ℕ → List ℕ) (workspace : Workspace) → IsSound digest workspace
    → (file : InlineFile) → IsPath file.path → (command : OpenCommand Opened)
    → IsSoundCommand workspace.objects command
    → IfOk (and_then (changes_in command) (λ commit.
    quiet (with_command workspace (open_command.Inline commit file)))) (LeavesSound digest)
inline_waits digest workspace sound file path command is =
    then_good (IsOpen workspace.objects) (LeavesSound digest) (changes_in command) _
    (changes_are workspace.objects command is)
    (λ commit good. command_keeps digest workspace (open_command.Inline commit file) sound (good, path))

-- ---- the groups of commands

object_keeps : (digest : List ℕ → List ℕ) → AnswersNames digest → (workspace : Workspace)
    → IsSound digest workspace → (command : ObjectCommand) → IsWellFormedObject command
    → IfOk (object_stored digest command workspace) (LeavesSound digest)
unfolding object_stored
object_keeps digest names workspace sound (Blob mark bytes) well =
    blob_keeps digest names workspace sound mark bytes
object_keeps digest names workspace sound (BeginTag ref) well =
    command_keeps digest workspace (open_command.Tag (new_tag_header ref)) sound (new_tag ref well)
object_keeps digest names workspace sound (TagTarget target) well =
    tag_header_keeps digest workspace sound (λ header. record header { target = Some target })
    (λ header is. record { ref = is.ref; tagger = is.tagger })
object_keeps digest names workspace sound (Tagger ident) well =
    tag_header_keeps digest workspace sound (λ header. record header { tagger = Some ident })
    (λ header is. record { ref = is.ref; tagger = well })
object_keeps digest names workspace sound (acts.Tag mark message) well =
    tag_ends digest names workspace sound mark message workspace.stream.command sound.command

commit_command_keeps : (digest : List ℕ → List ℕ) (workspace : Workspace)
    → IsSound digest workspace → (command : CommitCommand) → IsWellFormedCommit command
    → IfOk (commit_said command workspace) (LeavesSound digest)
unfolding commit_said
commit_command_keeps digest workspace sound (Begin ref) well =
    command_keeps digest workspace (open_command.Commit (new_commit_header (ref_in workspace ref)))
    sound (record {
      ref = meant_named workspace digest sound ref well;
      author = tt;
      committer = tt;
      encoding = tt;
    })
commit_command_keeps digest workspace sound (Author ident) well =
    commit_header_keeps digest workspace sound (λ header. record header { author = Some ident }) (λ header is. record {
      ref = is.ref;
      author = well;
      committer = is.committer;
      encoding = is.encoding;
    })
commit_command_keeps digest workspace sound (Committer ident) well =
    commit_header_keeps digest workspace sound (λ header. record header { committer = Some ident }) (λ header is. record {
      ref = is.ref;
      author = is.author;
      committer = well;
      encoding = is.encoding;
    })
commit_command_keeps digest workspace sound (Encoding encoding) well =
    commit_header_keeps digest workspace sound (λ header. record header { encoding = Some encoding }) (λ header is. record {
      ref = is.ref;
      author = is.author;
      committer = is.committer;
      encoding = well;
    })
commit_command_keeps digest workspace sound (Message mark message) well =
    commit_keeps digest workspace sound mark message workspace.stream.command sound.command
commit_command_keeps digest workspace sound (From from) well =
    commit_changed digest workspace sound (commit_started workspace from)
    (commit_started_open digest workspace sound.objects from)
commit_command_keeps digest workspace sound (Merge other) well =
    commit_changed digest workspace sound (commit_merged workspace other)
    (commit_merged_open digest workspace sound.objects other)

change_keeps : (digest : List ℕ → List ℕ) → AnswersNames digest → (workspace : Workspace)
    → IsSound digest workspace → (change : FileChange) → IsWellFormedChange change
    → IfOk (files_changed digest change workspace) (LeavesSound digest)
unfolding files_changed
change_keeps digest names workspace sound (Modify file_mode object path) well =
    commit_changed digest workspace sound _
    (modified_open digest workspace.objects sound.objects workspace.stream.marks sound.marks file_mode
    object well.0 path well.1.components)
change_keeps digest names workspace sound (ModifyInline file_mode path) well =
    inline_waits digest workspace sound (record { mode = file_mode; path = path }) well.1.components
    workspace.stream.command sound.command
change_keeps digest names workspace sound (InlineData bytes) well =
    contents_sound digest names workspace sound bytes workspace.stream.command sound.command
change_keeps digest names workspace sound (Delete path) well =
    commit_changed digest workspace sound (λ commit. Ok (deleted path commit))
    (λ commit is. deleted_open workspace.objects commit is path)
change_keeps digest names workspace sound (Copy source path) well =
    commit_changed digest workspace sound (λ commit. changed_or (copied_to source path commit))
    (λ commit is. copied_open workspace.objects commit is source path well.1.components)
change_keeps digest names workspace sound (Rename source path) well =
    commit_changed digest workspace sound (λ commit. changed_or (renamed_to source path commit))
    (λ commit is. renamed_open workspace.objects commit is source path well.1.components)
change_keeps digest names workspace sound DeleteAll well =
    commit_changed digest workspace sound (λ commit. Ok (all_deleted commit))
    (cleared_open workspace.objects)

ref_keeps : (digest : List ℕ → List ℕ) (workspace : Workspace) → IsSound digest workspace
    → (command : RefCommand) → IsWellFormedRef command
    → IfOk (ref_set command workspace) (LeavesSound digest)
unfolding ref_set
ref_keeps digest workspace sound (Reset ref) well = reset_keeps digest workspace sound ref well
ref_keeps digest workspace sound (ResetFrom from) well =
    placed_at digest workspace sound from workspace.stream.command sound.command
ref_keeps digest workspace sound (Alias mark commit) well =
    alias_keeps digest workspace sound mark commit

reply_keeps : (digest : List ℕ → List ℕ) → AnswersNames digest → (workspace : Workspace)
    → IsSound digest workspace → (command : ReplyCommand)
    → IfOk (replied digest command workspace) (LeavesSound digest)
unfolding replied
reply_keeps digest names workspace sound (GetMark mark) =
    then_any (LeavesSound digest) (marked_name workspace.stream.marks mark) _ (λ id. sound)
reply_keeps digest names workspace sound (CatBlob object) =
    then_any (LeavesSound digest) (referred_name workspace.stream.marks object) _ (λ id.
    then_any (LeavesSound digest) (shown_object id (object_named id workspace.objects))
    (λ line. prints workspace line) (λ line. sound))
reply_keeps digest names workspace sound (Ls root path) =
    then_any (LeavesSound digest) (entry_shown workspace.objects workspace.stream.marks root path)
    (λ line. prints workspace line) (λ line. sound)
reply_keeps digest names workspace sound (LsInCommit path) =
    entry_sound digest names workspace sound path workspace.stream.command sound.command
reply_keeps digest names workspace sound (Progress line) = sound

control_keeps : (digest : List ℕ → List ℕ) (workspace : Workspace) → IsSound digest workspace
    → (command : ControlCommand) → IsWellFormedControl command
    → IfOk (controlled command workspace) (LeavesSound digest)
unfolding controlled
control_keeps digest workspace sound control.Checkpoint well = checkpoint_keeps digest workspace sound
control_keeps digest workspace sound control.Done well = checkpoint_keeps digest workspace sound
control_keeps digest workspace sound (control.Feature wanted) well =
    feature_keeps digest workspace sound wanted
control_keeps digest workspace sound (control.Head ref) well =
    head_keeps digest workspace sound ref well

pub act_keeps : (digest : List ℕ → List ℕ) → AnswersNames digest → (workspace : Workspace)
    → IsSound digest workspace → (act : Act) → IsWellFormed act
    → IfOk (after_act digest act workspace) (LeavesSound digest)
unfolding after_act
act_keeps digest names workspace sound Wait well = sound
act_keeps digest names workspace sound (acts.Object command) well =
    object_keeps digest names workspace sound command well
act_keeps digest names workspace sound (Commit command) well =
    commit_command_keeps digest workspace sound command well
act_keeps digest names workspace sound (Change change) well =
    change_keeps digest names workspace sound change well
act_keeps digest names workspace sound (Ref command) well = ref_keeps digest workspace sound command well
act_keeps digest names workspace sound (Reply command) well =
    reply_keeps digest names workspace sound command
act_keeps digest names workspace sound (Control command) well =
    control_keeps digest workspace sound command well

-- ---- items, and the end

text_given : {A : Type 0} (P : A → Type 0) (r : Result A TextFault) → IfOk r P
    → IfOk (text_first r) P
text_given P (Ok value) good = good
text_given P (Err e) good = tt

if_ok : {A E : Type 0} (P : A → Type 0) (r : Result A E) → ((value : A) → r ≡ Ok value → P value)
    → IfOk r P
if_ok P (Ok value) h = h value refl
if_ok P (Err e) h = tt

abbrev StepsSoundly : (List ℕ → List ℕ) → Step → Type 0
StepsSoundly digest step = IsSound digest step.running.workspace

taken_keeps : (digest : List ℕ → List ℕ) → AnswersNames digest → (now : Running) (item : Item)
    → IsSound digest now.workspace → IfOk (taken digest now item) (StepsSoundly digest)
taken_keeps digest names now item sound =
    let WellDone : Done → Type 0 = λ done. IsWellFormed done.act in
    then_good WellDone (StepsSoundly digest) (text_first (done_by now.parsing item)) _
    (text_given WellDone (done_by now.parsing item)
    (if_ok WellDone (done_by now.parsing item) (well_formed now.parsing item)))
    (λ done well. then_good (IsSound digest) (StepsSoundly digest)
    (closed_where digest done.ends_commit now.workspace) _
    (where_keeps digest names done.ends_commit now.workspace sound)
    (λ workspace kept. then_good (LeavesSound digest) (StepsSoundly digest)
    (after_act digest done.act workspace) _
    (act_keeps digest names workspace kept done.act well) (λ effect left. left)))

pub item_keeps : (digest : List ℕ → List ℕ) → AnswersNames digest → (now : Running) (item : Item)
    (next : Step) → IsSound digest now.workspace → step digest now item ≡ Ok next
    → IsSound digest next.running.workspace
item_keeps digest names now item next sound =
    step_leaves (StepsSoundly digest) digest now item next sound
    (taken_keeps digest names now item sound)

pub end_keeps : (digest : List ℕ → List ℕ) → AnswersNames digest → (now : Running) (effect : Effect)
    → IsSound digest now.workspace → session_end digest now ≡ Ok effect
    → IsSound digest effect.workspace
unfolding session_end
end_keeps digest names now effect sound e =
    from_ok (LeavesSound digest) (session_end digest now) effect e
    (cond_both now.is_done (quiet now.workspace) (commands_end digest now)
    (λ r. IfOk r (LeavesSound digest)) (λ done. sound)
    (λ runs. then_any (LeavesSound digest) (text_first (end_of now.parsing)) _ (λ ends_commit.
    then_any (LeavesSound digest) (unless_done_missing now.workspace) _ (λ _.
    then_good (IsSound digest) (LeavesSound digest)
    (closed_where digest ends_commit now.workspace) _
    (where_keeps digest names ends_commit now.workspace sound)
    (λ workspace kept. checkpoint_keeps digest workspace kept)))))

-- No item of a stream takes an object away.
use Rattle.std.proofs.Common.{◌≡◌, ◌≤◌, ℕ, Bool, true, false, List, [], ◌∷◌, ◌++◌, length, codes, Option, Some, None, Result, Ok, Err, refl, sym, ap, ◌∙◌, append-nil, append_assoc, arith}
use Rattle.std.specs.Prelude.{if◌then◌else◌, IfOk, is_some}
use Rattle.std.specs.Str.{bytes_eq}
use Rattle.std.proofs.lemmas.List.{length-append}
use Rattle.git_model.specs.declared.file_mode.FileMode.{FileMode}
use Rattle.git_model.specs.declared.file_mode.FileMode.TheVariants as mode
use Rattle.git_model.specs.declared.kind.Kind.TheVariants as kind
use Rattle.git_model.specs.Content.{Content, content_from, name_by}
use Rattle.git_model.specs.Repository.{Object, object_named, with_object}
use Rattle.git_model.specs.Tree.{TreeEntry}
use Rattle.tenant_tables.specs.declared.fault.Fault.{Fault as TableFault}
use Rattle.tenant_tables.specs.Adding.{store_fault}
use Rattle.tenant_tables.proofs.StoredGood.{Grows}
use Rattle.file_maps.specs.declared.entry.Entry.{Entry}
use Rattle.file_maps.specs.declared.fault.Fault.{Fault as FilesFault}
use Rattle.file_maps.specs.Edits.{files_at}
use Rattle.file_maps.specs.FileMap.{FileMap, Listed, Path, listed}
use Rattle.file_maps.specs.Storing.{trees_fault, with_trees}
use Rattle.file_maps.specs.Trees.{entry_at, nested_trees, tree_content, tree_name}
use Rattle.stream_lex.specs.Items.{Item}
use Rattle.stream_grammar.specs.declared.feature.Feature.{Feature}
use Rattle.stream_grammar.specs.declared.feature.Feature.TheVariants as feature
use Rattle.stream_grammar.specs.declared.act.ControlCommand.TheVariants as control
use Rattle.stream_grammar.specs.declared.act.ControlCommand.{ControlCommand}
use Rattle.stream_grammar.specs.Acts.{ObjectCommand, Blob, BeginTag, TagTarget, Tagger}
use Rattle.stream_grammar.specs.Acts.{CommitCommand, Begin, Author, Committer, Encoding, Message, From, Merge}
use Rattle.stream_grammar.specs.Acts.{FileChange, Modify, ModifyInline, InlineData, Delete, Copy, Rename, DeleteAll}
use Rattle.stream_grammar.specs.Acts.{RefCommand, Reset, ResetFrom, Alias}
use Rattle.stream_grammar.specs.Acts.{ReplyCommand, GetMark, CatBlob, Ls, LsInCommit, Progress}
use Rattle.stream_grammar.specs.Acts.{Act, Wait, Commit, Change, Ref, Reply, Control}
use Rattle.stream_grammar.specs.Acts as acts
use Rattle.stream_grammar.specs.Commands.{done_by}
use Rattle.open_commits.specs.declared.fault.Fault.{Fault as CommitFault}
use Rattle.open_commits.specs.Changes.{all_deleted, blob_put, contents_put, deleted, entry_of, file_put}
use Rattle.open_commits.specs.Ends.{closed, commit_content}
use Rattle.git_model.specs.Results.{and_then}
use Rattle.open_commits.specs.OpenCommit.{OpenCommit, begun}
use Rattle.open_commits.specs.Showing.{commit_entry_shown, file_or_trees, found_shown}
use Rattle.open_commits.specs.Storing.{stored, stored_or as commit_stored_or, trees_or, trees_stored}
use Rattle.stream_parts.specs.declared.fault.Fault.{Fault}
use Rattle.stream_parts.specs.declared.headers.CommitHeader.{CommitHeader}
use Rattle.stream_parts.specs.declared.headers.TagHeader.{TagHeader}
use Rattle.stream_parts.specs.Branches.{branch_set, tip_commit, tip_for}
use Rattle.stream_parts.specs.declared.branches.Tip.TheVariants.{Unborn}
use Rattle.stream_parts.specs.Checkpoints.{fit}
use Rattle.stream_parts.specs.Faults.{text_first}
use Rattle.stream_parts.specs.Marks.{marked_name, referred_name, room_for}
use Rattle.stream_parts.specs.OpenCommand.{OpenCommand, changes_in, commit_header_in, inline_in, reset_in, tag_header_in}
use Rattle.stream_parts.specs.OpenCommand as open_command
use Rattle.stream_parts.specs.Printing.{shown_object}
use Rattle.stream_parts.specs.Showing.{entry_shown}
use Rattle.stream_parts.specs.Storing.{stored_or, with_content}
use Rattle.stream_parts.specs.Tags.{tag_content}
use Rattle.stream_commands.specs.Checkpoints.{checkpoint, saved_refs}
use Rattle.stream_commands.specs.CommitIshes.{commit_in, ref_in}
use Rattle.stream_commands.specs.Controls.{controlled, feature_set}
use Rattle.stream_commands.specs.Faults.{changed_or}
use Rattle.stream_commands.specs.Lines.{in_changes, in_commit_header, in_tag_header}
use Rattle.stream_commands.specs.Objects.{object_stored}
use Rattle.stream_commands.specs.Refs.{ref_set, tip_from}
use Rattle.stream_commands.specs.Replies.{replied}
use Rattle.stream_commands.specs.Tags.{tagged}
use Rattle.stream_commands.specs.Workspace.{Workspace, Effect}
use Rattle.import_session.specs.Changes.{files_changed}
use Rattle.import_session.specs.Commits.{begun_from, closed_where, commit_merged, commit_said, commit_started, header_said, open_closed}
use Rattle.import_session.specs.Meaning.{after_act}
use Rattle.import_session.specs.Stream.{Running, Step, step, taken}
use Rattle.import_session.proofs.SoundCommits.{by_test, then_any, then_good}
use Rattle.import_session.proofs.SoundEnds.{from_ok}
use Rattle.tenant_service.specs.Growing.{KeepsObjects}

-- ---- objects that are added

same : (os : List Object) → Grows os os
same os = record { more = []; are = sym (append-nil os) }

further : (os mid new : List Object) → Grows os mid → Grows mid new → Grows os new
further os mid new one two = record {
  more = one.more ++ two.more;
  are = two.are ∙ ap (λ (x : List Object). x ++ two.more) one.are
      ∙ append_assoc os one.more two.more;
}

one_more : (id : List ℕ) (c : Content) (os : List Object) → Grows os (with_object id c os)
one_more id c os = by (is_some (object_named id os))
  where
    by : (b : Bool) → Grows os (if b then os else os ++ record { id = id; content = c } ∷ [])
    by true = same os
    by false = record { more = record { id = id; content = c } ∷ []; are = refl }

trees_more : (digest : List ℕ → List ℕ) (trees : List (List TreeEntry)) (os : List Object)
    → Grows os (with_trees digest trees os)
trees_more digest [] os = same os
trees_more digest (es ∷ trees) os =
    let one = with_object (tree_name digest es) (tree_content es) os in
    further os one (with_trees digest trees one) (one_more (tree_name digest es) (tree_content es) os)
    (trees_more digest trees one)

content_more : (digest : List ℕ → List ℕ) (c : Content) (os : List Object)
    → IfOk (with_content digest c os) (Grows os)
content_more digest c os = by (store_fault (name_by digest c) c os)
  where
    by : (refusal : Option TableFault) → IfOk (stored_or (name_by digest c) c os refusal) (Grows os)
    by None = one_more (name_by digest c) c os
    by (Some refusal) = tt

stored_more : (digest : List ℕ → List ℕ) (c : Content) (os : List Object)
    → IfOk (stored digest c os) (Grows os)
stored_more digest c os = by (store_fault (name_by digest c) c os)
  where
    by : (refusal : Option TableFault)
        → IfOk (commit_stored_or (name_by digest c) c os refusal) (Grows os)
    by None = one_more (name_by digest c) c os
    by (Some refusal) = tt

files_more : (digest : List ℕ → List ℕ) (files : Listed) (os : List Object)
    → IfOk (trees_stored digest files os) (Grows os)
files_more digest files os = by (trees_fault digest (nested_trees digest files) os)
  where
    by : (refusal : Option FilesFault)
        → IfOk (trees_or digest (nested_trees digest files) os refusal) (Grows os)
    by None = trees_more digest (nested_trees digest files) os
    by (Some refusal) = tt

-- ---- what open commits add

after_good : {A B : Type 0} (P : A → Type 0) (Q : B → Type 0) (r : Result A CommitFault)
    (next : A → Result B CommitFault) → IfOk r P → ((value : A) → P value → IfOk (next value) Q)
    → IfOk (and_then r next) Q
after_good P Q (Ok value) next good later = later value good
after_good P Q (Err e) next good later = tt

after_any : {A B : Type 0} (Q : B → Type 0) (r : Result A CommitFault)
    (next : A → Result B CommitFault) → ((value : A) → IfOk (next value) Q)
    → IfOk (and_then r next) Q
after_any Q (Ok value) next later = later value
after_any Q (Err e) next later = tt

changed : {A : Type 0} (P : A → Type 0) (r : Result A CommitFault) → IfOk r P
    → IfOk (changed_or r) P
changed P (Ok value) good = good
changed P (Err e) good = tt

end_more : (digest : List ℕ → List ℕ) (os : List Object) (commit : OpenCommit)
    → IfOk (closed digest os commit) (λ end. Grows os end.objects)
end_more digest os commit =
    let content = commit_content digest commit in
    after_good (Grows os) (λ end. Grows os end.objects) (trees_stored digest (listed commit.files) os) _
    (files_more digest (listed commit.files) os)
    (λ with_all grows. after_good (Grows with_all) (λ end. Grows os end.objects)
    (stored digest content with_all) _ (stored_more digest content with_all)
    (λ more again. further os with_all more grows again))

blob_more : (digest : List ℕ → List ℕ) (os : List Object) (m : FileMode) (path : Path)
    (blob : Content) (commit : OpenCommit)
    → IfOk (blob_put digest os m path blob commit) (λ left. Grows os left.objects)
blob_more digest os m path blob commit =
    after_any (λ left. Grows os left.objects)
    (file_put path (entry_of m (name_by digest blob)) commit) _
    (λ next. after_good (Grows os) (λ left. Grows os left.objects) (stored digest blob os) _
    (stored_more digest blob os) (λ more grows. grows))

contents_more : (digest : List ℕ → List ℕ) (os : List Object) (m : FileMode) (path : Path)
    (bytes : List ℕ) (commit : OpenCommit)
    → IfOk (contents_put digest os m path bytes commit) (λ left. Grows os left.objects)
contents_more digest os mode.Directory path bytes commit = tt
contents_more digest os mode.Gitlink path bytes commit = tt
contents_more digest os m path bytes commit =
    blob_more digest os m path (content_from kind.Blob bytes) commit

shown_more : (digest : List ℕ → List ℕ) (os : List Object) (files : FileMap) (path : Path)
    → IfOk (commit_entry_shown digest os files path) (λ shown. Grows os shown.objects)
shown_more digest os files path = by (entry_at digest files path)
  where
    of_mode : (m : FileMode) → IfOk (file_or_trees digest os files path m) (Grows os)
    of_mode mode.Directory = files_more digest (files_at files path) os
    of_mode mode.Regular = same os
    of_mode mode.Executable = same os
    of_mode mode.Symlink = same os
    of_mode mode.Gitlink = same os

    by : (found : Option Entry)
        → IfOk (found_shown digest os files path found) (λ shown. Grows os shown.objects)
    by None = same os
    by (Some e) =
        after_good (Grows os) (λ shown. Grows os shown.objects)
        (file_or_trees digest os files path e.mode) _ (of_mode e.mode) (λ more grows. grows)

-- ---- acts

-- what an act leaves has the objects from before it
abbrev LeavesObjects : Workspace → Effect → Type 0
LeavesObjects w effect = KeepsObjects w effect.workspace

grown : (w after : Workspace) → w.committed ≤ length w.objects → after.committed ≡ w.committed
    → Grows w.objects after.objects → KeepsObjects w after
grown w after within stays grows =
    let l = ap length grows.are ∙ length-append w.objects grows.more in record {
      more = grows.more;
      objects = grows.are;
      committed = omega (arith, stays);
      within = omega (arith, stays, within, l);
    }

pub onward : (w mid after : Workspace) → KeepsObjects w mid → KeepsObjects mid after
    → KeepsObjects w after
onward w mid after one two =
    let both = further w.objects mid.objects after.objects
    (record { more = one.more; are = one.objects })
    (record { more = two.more; are = two.objects }) in
    let a = one.committed in
    let b = two.committed in record {
      more = both.more;
      objects = both.are;
      committed = omega (arith, a, b);
      within = two.within;
    }

module _ (w : Workspace) (within : w.committed ≤ length w.objects) where
  abbrev stays : Effect → Type 0
  stays = LeavesObjects w

  pub still : (after : Workspace) → after.committed ≡ w.committed → after.objects ≡ w.objects
      → KeepsObjects w after
  still after as_many are =
      grown w after within as_many (record { more = []; are = are ∙ sym (append-nil w.objects) })

  -- the open command, or the open commit, changes
  commit_header_grows : (more : CommitHeader → CommitHeader) → IfOk (in_commit_header more w) stays
  commit_header_grows more =
      then_any stays (commit_header_in w.stream.command) _ (λ header. still _ refl refl)

  tag_header_grows : (more : TagHeader → TagHeader) → IfOk (in_tag_header more w) stays
  tag_header_grows more =
      then_any stays (tag_header_in w.stream.command) _ (λ header. still _ refl refl)

  changes_grow : (change : OpenCommit → Result OpenCommit Fault) → IfOk (in_changes change w) stays
  changes_grow change =
      then_any stays (changes_in w.stream.command) _ (λ commit.
      then_any stays (change commit) _ (λ next. still _ refl refl))

  object_grows : (digest : List ℕ → List ℕ) (command : ObjectCommand)
      → IfOk (object_stored digest command w) stays
  unfolding object_stored
  object_grows digest (Blob mark bytes) =
      then_any stays (room_for w.stream.marks mark) _ (λ _.
      then_good (Grows w.objects) stays
      (with_content digest (content_from kind.Blob bytes) w.objects) _
      (content_more digest (content_from kind.Blob bytes) w.objects)
      (λ os grows. grown w _ within refl grows))
  object_grows digest (BeginTag ref) = still _ refl refl
  object_grows digest (TagTarget target) = tag_header_grows _
  object_grows digest (Tagger ident) = tag_header_grows _
  object_grows digest (acts.Tag mark message) =
      then_any stays (tag_header_in w.stream.command) _ (λ header.
      then_any stays (tagged mark header w) _ (λ target.
      let tag = tag_content header message target.0 target.1 in
      then_good (Grows w.objects) stays (with_content digest tag w.objects) _
      (content_more digest tag w.objects) (λ os grows. grown w _ within refl grows)))

  commit_grows : (command : CommitCommand) → IfOk (commit_said command w) stays
  unfolding commit_said
  commit_grows (Begin ref) = still _ refl refl
  commit_grows (Author ident) = commit_header_grows _
  commit_grows (Committer ident) = commit_header_grows _
  commit_grows (Encoding encoding) = commit_header_grows _
  commit_grows (Message mark message) =
      then_any stays (commit_header_in w.stream.command) _ (λ said.
      then_any stays (header_said mark said) _ (λ header.
      then_any stays (branch_set w.stream.branches header.ref (tip_for (tip_commit w.stream.branches header.ref))) _
      (λ branches.
      then_any stays (begun_from w.objects (tip_commit w.stream.branches header.ref) (begun header message)) _
      (λ opening. still _ refl refl))))
  commit_grows (From from) = changes_grow (commit_started w from)
  commit_grows (Merge other) = changes_grow (commit_merged w other)

  change_grows : (digest : List ℕ → List ℕ) (change : FileChange)
      → IfOk (files_changed digest change w) stays
  unfolding files_changed
  change_grows digest (Modify m object path) = changes_grow _
  change_grows digest (ModifyInline m path) =
      then_any stays (changes_in w.stream.command) _ (λ commit. still _ refl refl)
  change_grows digest (InlineData bytes) =
      then_any stays (inline_in w.stream.command) _ (λ inline.
      then_good (λ left. Grows w.objects left.objects) stays
      (changed_or (contents_put digest w.objects inline.1.mode inline.1.path bytes inline.0)) _
      (changed (λ left. Grows w.objects left.objects)
      (contents_put digest w.objects inline.1.mode inline.1.path bytes inline.0)
      (contents_more digest w.objects inline.1.mode inline.1.path bytes inline.0))
      (λ left grows. grown w _ within refl grows))
  change_grows digest (Delete path) = changes_grow (λ commit. Ok (deleted path commit))
  change_grows digest (Copy source path) = changes_grow _
  change_grows digest (Rename source path) = changes_grow _
  change_grows digest DeleteAll = changes_grow (λ commit. Ok (all_deleted commit))

  ref_grows : (command : RefCommand) → IfOk (ref_set command w) stays
  unfolding ref_set
  ref_grows (Reset ref) =
      then_any stays (branch_set w.stream.branches (ref_in w ref) Unborn) _
      (λ branches. still _ refl refl)
  ref_grows (ResetFrom from) =
      then_any stays (reset_in w.stream.command) _ (λ ref.
      then_any stays (tip_from w ref from) _ (λ tip. still _ refl refl))
  ref_grows (Alias mark commit) =
      then_any stays (commit_in w commit) _ (λ id.
      then_any stays (room_for w.stream.marks (Some mark)) _ (λ _. still _ refl refl))

  reply_grows : (digest : List ℕ → List ℕ) (command : ReplyCommand)
      → IfOk (replied digest command w) stays
  unfolding replied
  reply_grows digest (GetMark mark) =
      then_any stays (marked_name w.stream.marks mark) _ (λ id. still _ refl refl)
  reply_grows digest (CatBlob object) =
      then_any stays (referred_name w.stream.marks object) _ (λ id.
      then_any stays (shown_object id (object_named id w.objects)) _ (λ line. still _ refl refl))
  reply_grows digest (Ls root path) =
      then_any stays (entry_shown w.objects w.stream.marks root path) _
      (λ line. still _ refl refl)
  reply_grows digest (LsInCommit path) =
      then_any stays (changes_in w.stream.command) _ (λ commit.
      then_good (λ shown. Grows w.objects shown.objects) stays
      (changed_or (commit_entry_shown digest w.objects commit.files path)) _
      (changed (λ shown. Grows w.objects shown.objects)
      (commit_entry_shown digest w.objects commit.files path)
      (shown_more digest w.objects commit.files path))
      (λ shown grows. grown w _ within refl grows))
  reply_grows digest (Progress line) = still _ refl refl

  checkpoint_grows : IfOk (checkpoint w) stays
  checkpoint_grows =
      by_test (fit (saved_refs w))
      (λ few. rw few (record {
        more = [];
        objects = sym (append-nil w.objects);
        committed = within;
        within = omega arith;
      }))
      (λ many. rw many tt)

  feature_grows : (wanted : Feature) → KeepsObjects w (feature_set wanted w)
  feature_grows feature.Done = still _ refl refl
  feature_grows feature.Force = still _ refl refl
  feature_grows _ = still w refl refl

  control_grows : (command : ControlCommand) → IfOk (controlled command w) stays
  unfolding controlled
  control_grows control.Checkpoint = checkpoint_grows
  control_grows control.Done = checkpoint_grows
  control_grows (control.Feature wanted) = feature_grows wanted
  control_grows (control.Head ref) =
      by_test (bytes_eq ref (codes "HEAD")) (λ is. rw is tt) (λ other. rw other (still _ refl refl))

  act_grows : (digest : List ℕ → List ℕ) (act : Act) → IfOk (after_act digest act w) stays
  unfolding after_act
  act_grows digest Wait = still w refl refl
  act_grows digest (acts.Object command) = object_grows digest command
  act_grows digest (Commit command) = commit_grows command
  act_grows digest (Change change) = change_grows digest change
  act_grows digest (Ref command) = ref_grows command
  act_grows digest (Reply command) = reply_grows digest command
  act_grows digest (Control command) = control_grows command

  -- ---- the end of the open commit

  commit_ends : (digest : List ℕ → List ℕ) (command : OpenCommand OpenCommit)
      → IfOk (open_closed digest w command) (KeepsObjects w)
  commit_ends digest (open_command.Changes commit) =
      then_any (KeepsObjects w) (room_for w.stream.marks commit.header.mark) _ (λ _.
      then_good (λ end. Grows w.objects end.objects) (KeepsObjects w)
      (changed_or (closed digest w.objects commit)) _
      (changed (λ end. Grows w.objects end.objects) (closed digest w.objects commit)
      (end_more digest w.objects commit))
      (λ end grows. grown w _ within refl grows))
  commit_ends digest _ = still w refl refl

  where_grows : (digest : List ℕ → List ℕ) (ends : Bool)
      → IfOk (closed_where digest ends w) (KeepsObjects w)
  where_grows digest false = still w refl refl
  where_grows digest true = commit_ends digest w.stream.command

-- ---- items

taken_grows : (digest : List ℕ → List ℕ) (now : Running) (item : Item)
    → now.workspace.committed ≤ length now.workspace.objects
    → IfOk (taken digest now item) (λ next. KeepsObjects now.workspace next.running.workspace)
taken_grows digest now item within =
    let w = now.workspace in
    let goes : Step → Type 0 = λ next. KeepsObjects w next.running.workspace in
    then_any goes (text_first (done_by now.parsing item)) _ (λ done.
    then_good (KeepsObjects w) goes (closed_where digest done.ends_commit w) _
    (where_grows w within digest done.ends_commit)
    (λ mid kept. then_good (LeavesObjects mid) goes (after_act digest done.act mid) _
    (act_grows mid kept.within digest done.act)
    (λ effect left. onward w mid effect.workspace kept left)))

pub item_grows : (digest : List ℕ → List ℕ) (now : Running) (item : Item) (next : Step)
    → now.workspace.committed ≤ length now.workspace.objects → step digest now item ≡ Ok next
    → KeepsObjects now.workspace next.running.workspace
unfolding step
item_grows digest now item next within e = from_ok goes (step digest now item) next e (by now.is_done)
  where
    goes : Step → Type 0
    goes s = KeepsObjects now.workspace s.running.workspace

    by : (b : Bool) → IfOk (if b then Ok (record { running = now; reply = [] })
        else taken digest now item) goes
    by true = still now.workspace within now.workspace refl refl
    by false = taken_grows digest now item within

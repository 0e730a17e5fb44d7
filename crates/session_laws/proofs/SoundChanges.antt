-- An open commit stays good, and keeps good objects good.
use Rattle.std.proofs.Common.{◌≡◌, ℕ, List, [], ◌∷◌, length, Option, None, Some, Result, Ok, Err, refl, sym, ap, ◌∙◌, subst, arith}
use Rattle.std.specs.Prelude.{IfOk, IfSome, nat_lt, unwrap_or}
use Rattle.std.specs.FinMap as finmap
use Rattle.std.specs.FinMap.{entries-from_sorted}
use Rattle.git_model.specs.declared.file_mode.FileMode.{FileMode}
use Rattle.git_model.specs.declared.kind.Kind.TheVariants as kind
use Rattle.git_model.specs.CommitReading.{commit_read}
use Rattle.git_model.specs.declared.file_mode.FileMode.TheVariants as mode
use Rattle.git_model.specs.Content.{Content, content_from, name_by, no_content}
use Rattle.git_model.specs.GoodRepository.{AreObjects, IsShortRefName, parents_limit}
use Rattle.git_model.specs.References.{kind_named}
use Rattle.git_model.specs.Repository.{Object}
use Rattle.git_names.specs.Naming.{AnswersNames}
use Rattle.git_paths.specs.Order.{path_cmp}
use Rattle.git_paths.specs.Paths.{IsPath}
use Rattle.stream_grammar.specs.Names.{CommitIsh}
use Rattle.stream_grammar.specs.WellFormed.{IsReferred}
use Rattle.stream_grammar.specs.declared.data_ref.DataRef.{DataRef}
use Rattle.file_maps.specs.declared.entry.Entry.{Entry}
use Rattle.file_maps.specs.declared.fault.Fault.{Fault as FilesFault}
use Rattle.file_maps.specs.Edits.{copied, files_at, move_fault, moved, put_at, put_fault, put_tree_at, renamed}
use Rattle.file_maps.specs.FileMap.{AreFiles, FileMap, Path, listed}
use Rattle.file_maps.specs.Grafts.{graft_fault}
use Rattle.file_maps.specs.StoredFiles.{commit_map, stored_files, tree_of_commit}
use Rattle.file_maps.proofs.Maps.{empty-of}
use Rattle.tenant_tables.proofs.StoredGood.{Grows}
use Rattle.open_commits.specs.declared.fault.Fault.{Fault as CommitFault}
use Rattle.git_model.specs.Results.{and_then}
use Rattle.git_model.proofs.Readables.{objects_are}
use Rattle.open_commits.specs.Changes.{Left, Marks, all_deleted, blob_of, blob_put, contents_put, copied_to, deleted, entry_of, file_put, link_of, modified, renamed_to, tree_of}
use Rattle.open_commits.specs.Storing.{stored}
use Rattle.open_commits.specs.GoodCommits.{AreMarks, GrowGood, IsGoodCommit, IsGoodHeader}
use Rattle.open_commits.specs.OpenCommit.{Header, OpenCommit, begun}
use Rattle.open_commits.specs.OpenFiles.{HasFiles}
use Rattle.open_commits.specs.Parents.{changed_to, merged, started_from}
use Rattle.open_commits.proofs.GoodCommits.{all_deleted_keeps, begun_is, change_keeps, contents_keep, copy_keeps, delete_keeps, longer_is, merge_keeps, rename_keeps, start_keeps}
use Rattle.open_commits.proofs.GoodFiles.{contents_has, copied_has, deleted_has, modified_has, renamed_has, started_has}
use Rattle.open_commits.proofs.StoredCommits.{stored_commit}
use Rattle.stream_parts.specs.OpenCommand.{OpenCommand}
use Rattle.stream_parts.specs.OpenCommand as open_command
use Rattle.stream_commands.specs.Faults.{changed_or}
use Rattle.stream_commands.specs.Workspace.{Workspace}
use Rattle.stream_commands.specs.CommitIshes.{commit_in, start_in}
use Rattle.import_session.specs.Commits.{begun_from, commit_merged, commit_started}
use Rattle.import_session.specs.Sound.{IsOpen, IsSoundCommand}
use Rattle.import_session.proofs.SoundCommits.{IsCommitOf, by_test, commit_good, start_good, then_good}

-- ---- more objects

open_grown : (os new : List Object) → Grows os new → (commit : OpenCommit)
    → IsOpen os commit → IsOpen new commit
open_grown os new grows commit is = record {
  ref = is.ref;
  good = subst (λ (objects : List Object). IsGoodCommit objects commit) (sym grows.are)
      (longer_is os grows.more commit is.good);
  files = is.files;
}

pub command_grown : (os new : List Object) → Grows os new → (command : OpenCommand OpenCommit)
    → IsSoundCommand os command → IsSoundCommand new command
command_grown os new grows open_command.Nothing is = tt
command_grown os new grows (open_command.Commit header) is = is
command_grown os new grows (open_command.Tag header) is = is
command_grown os new grows (open_command.Reset ref) is = is
command_grown os new grows (open_command.Changes commit) is = open_grown os new grows commit is
command_grown os new grows (open_command.Inline commit file) is =
    (open_grown os new grows commit is.0, is.1)

-- ---- the branch of a commit, which no change moves

abbrev HasRef : OpenCommit → Type 0
HasRef commit = IsShortRefName commit.header.ref

changed_ref : (commit : OpenCommit) (files : FileMap) (refusal : Option FilesFault) → HasRef commit
    → IfOk (changed_to commit files refusal) HasRef
changed_ref commit files None ref = ref
changed_ref commit files (Some refusal) ref = tt

after_good : {A B : Type 0} (P : A → Type 0) (Q : B → Type 0) (r : Result A CommitFault)
    (next : A → Result B CommitFault) → IfOk r P → ((value : A) → P value → IfOk (next value) Q)
    → IfOk (and_then r next) Q
after_good P Q (Ok value) next good later = later value good
after_good P Q (Err e) next good later = tt

after_any : {A B : Type 0} (Q : B → Type 0) (r : Result A CommitFault)
    (next : A → Result B CommitFault) → ((value : A) → IfOk (next value) Q)
    → IfOk (and_then r next) Q
after_any Q (Ok value) next later = later value
after_any Q (Err e) next later = tt

file_put_ref : (path : Path) (e : Entry) (commit : OpenCommit) → HasRef commit
    → IfOk (file_put path e commit) HasRef
file_put_ref path e commit ref = let after = put_at commit.files path e in
    changed_ref commit after (put_fault (moved path (([], e) ∷ [])) after) ref

modified_ref : (os : List Object) (marks : Marks) (file_mode : FileMode) (object : DataRef)
    (path : Path) (commit : OpenCommit) → HasRef commit
    → IfOk (modified os marks file_mode object path commit) HasRef
modified_ref os marks mode.Directory object path commit ref =
    after_any HasRef (tree_of os marks object) _ (λ id. let files = stored_files os id in
    let after = put_tree_at commit.files path files in
    changed_ref commit after (graft_fault os id (moved path files) after) ref)
modified_ref os marks mode.Gitlink object path commit ref =
    after_any HasRef (link_of marks object) _
    (λ id. file_put_ref path (entry_of mode.Gitlink id) commit ref)
modified_ref os marks file_mode object path commit ref =
    after_any HasRef (blob_of os marks object) _
    (λ id. file_put_ref path (entry_of file_mode id) commit ref)

contents_ref : (digest : List ℕ → List ℕ) (os : List Object) (file_mode : FileMode) (path : Path)
    (bytes : List ℕ) (commit : OpenCommit) → HasRef commit
    → IfOk (contents_put digest os file_mode path bytes commit) (λ left. HasRef left.commit)
contents_ref digest os mode.Directory path bytes commit ref = tt
contents_ref digest os mode.Gitlink path bytes commit ref = tt
contents_ref digest os file_mode path bytes commit ref =
    put (content_from kind.Blob bytes)
    (file_put_ref path (entry_of file_mode (name_by digest (content_from kind.Blob bytes))) commit ref)
  where
    put : (blob : Content)
        → IfOk (file_put path (entry_of file_mode (name_by digest blob)) commit) HasRef
        → IfOk (blob_put digest os file_mode path blob commit) (λ left. HasRef left.commit)
    put blob next =
        after_good HasRef (λ left. HasRef left.commit)
        (file_put path (entry_of file_mode (name_by digest blob)) commit) _ next
        (λ next has. after_any (λ left. HasRef left.commit) (stored digest blob os) _ (λ more. has))

-- ---- what a change leaves

stays_open : (os : List Object) (r : Result OpenCommit CommitFault) → IfOk r HasRef
    → IfOk r HasFiles → ((next : OpenCommit) → r ≡ Ok next → IsGoodCommit os next)
    → IfOk (changed_or r) (IsOpen os)
stays_open os (Ok next) ref files good = record { ref = ref; good = good next refl; files = files }
stays_open os (Err e) ref files good = tt

no_files : AreFiles (listed finmap.empty)
no_files =
    subst AreFiles
    (sym (ap listed (sym (empty-of [] refl)) ∙ entries-from_sorted path_cmp [] tt))
    (record { in_order = refl; each = tt; apart = tt; few = omega arith })

-- the tree of a commit
tree_there : (digest : List ℕ → List ℕ) (os : List Object) → AreObjects digest os → (id : List ℕ)
    → kind_named id os ≡ Some kind.Commit → kind_named (tree_of_commit os id) os ≡ Some kind.Tree
tree_there digest os good id k =
    let s = stored_commit digest os good id k in
    subst (λ (o : Option Content). kind_named (commit_read (unwrap_or o no_content).bytes).tree os
    ≡ Some kind.Tree) (sym s.named) s.tree

started_open : (digest : List ℕ → List ℕ) (os : List Object) → AreObjects digest os
    → (commit : OpenCommit) → IsOpen os commit → (id : List ℕ)
    → kind_named id os ≡ Some kind.Commit → IfOk (changed_or (started_from os id commit)) (IsOpen os)
started_open digest os good commit is id k =
    stays_open os (started_from os id commit)
    (changed_ref (record commit { parents = id ∷ [] }) (commit_map os id)
    (graft_fault os (tree_of_commit os id) (stored_files os (tree_of_commit os id)) (commit_map os id)) is.ref)
    (started_has digest os good commit is.files id (tree_there digest os good id k))
    (λ next e. start_keeps digest os good commit next is.good is.files id k e)

-- a header that a commit may begin with
pub record IsReady (header : Header) : Type 0 where
  pub ref : IsShortRefName header.ref
  pub can : IsGoodHeader header

pub begun_open : (digest : List ℕ → List ℕ) (os : List Object) → AreObjects digest os
    → (header : Header) (message : List ℕ) → IsReady header → (first : Option (List ℕ))
    → IfSome first (IsCommitOf os) → IfOk (begun_from os first (begun header message)) (IsOpen os)
begun_open digest os good header message ready None k =
    record { ref = ready.ref; good = begun_is os header message ready.can; files = no_files }
begun_open digest os good header message ready (Some id) k =
    started_open digest os good (begun header message)
    (record { ref = ready.ref; good = begun_is os header message ready.can; files = no_files }) id k

merged_has : (id : List ℕ) (commit : OpenCommit) → HasFiles commit
    → IfOk (merged id commit) HasFiles
merged_has id commit files =
    by_test (nat_lt (length commit.parents) parents_limit)
    (λ few. rw few files)
    (λ many. rw many tt)

merged_ref : (id : List ℕ) (commit : OpenCommit) → HasRef commit → IfOk (merged id commit) HasRef
merged_ref id commit ref =
    by_test (nat_lt (length commit.parents) parents_limit)
    (λ few. rw few ref)
    (λ many. rw many tt)

-- ---- each change

pub deleted_open : (os : List Object) (commit : OpenCommit) → IsOpen os commit → (path : Path)
    → IsOpen os (deleted path commit)
deleted_open os commit is path = record {
  ref = is.ref;
  good = delete_keeps os commit is.good is.files path;
  files = deleted_has commit is.files path;
}

pub cleared_open : (os : List Object) (commit : OpenCommit) → IsOpen os commit
    → IsOpen os (all_deleted commit)
cleared_open os commit is =
    record { ref = is.ref; good = all_deleted_keeps os commit is.good; files = no_files }

pub copied_open : (os : List Object) (commit : OpenCommit) → IsOpen os commit
    → (source path : Path) → IsPath path → IfOk (changed_or (copied_to source path commit)) (IsOpen os)
copied_open os commit is source path well =
    stays_open os (copied_to source path commit)
    (changed_ref commit (copied commit.files source path)
    (move_fault (moved path (files_at commit.files source)) (copied commit.files source path)) is.ref)
    (copied_has commit is.files source path well)
    (λ next e. copy_keeps os commit next is.good is.files source path e)

pub renamed_open : (os : List Object) (commit : OpenCommit) → IsOpen os commit
    → (source path : Path) → IsPath path
    → IfOk (changed_or (renamed_to source path commit)) (IsOpen os)
renamed_open os commit is source path well =
    stays_open os (renamed_to source path commit)
    (changed_ref commit (renamed commit.files source path)
    (move_fault (moved path (files_at commit.files source)) (renamed commit.files source path)) is.ref)
    (renamed_has commit is.files source path well)
    (λ next e. rename_keeps os commit next is.good is.files source path e)

pub modified_open : (digest : List ℕ → List ℕ) (os : List Object) → AreObjects digest os
    → (marks : Marks) → AreMarks os marks → (file_mode : FileMode) (object : DataRef)
    → IsReferred object → (path : Path) → IsPath path → (commit : OpenCommit) → IsOpen os commit
    → IfOk (changed_or (modified os marks file_mode object path commit)) (IsOpen os)
modified_open digest os good marks set file_mode object referred path well commit is =
    stays_open os (modified os marks file_mode object path commit)
    (modified_ref os marks file_mode object path commit is.ref)
    (modified_has digest os good commit is.files marks set file_mode object referred path well)
    (λ next e. change_keeps digest os good commit next is.good is.files marks set file_mode object path
    e)

pub commit_started_open : (digest : List ℕ → List ℕ) (workspace : Workspace)
    → AreObjects digest workspace.objects → (from : CommitIsh) (commit : OpenCommit)
    → IsOpen workspace.objects commit
    → IfOk (commit_started workspace from commit) (IsOpen workspace.objects)
commit_started_open digest workspace good from commit is =
    then_good (IsCommitOf workspace.objects) (IsOpen workspace.objects)
    (start_in workspace commit.header.ref from) _
    (start_good digest workspace (objects_are _ _ good) commit.header.ref from)
    (λ id k. started_open digest workspace.objects good commit is id k)

pub commit_merged_open : (digest : List ℕ → List ℕ) (workspace : Workspace)
    → AreObjects digest workspace.objects → (other : CommitIsh) (commit : OpenCommit)
    → IsOpen workspace.objects commit
    → IfOk (commit_merged workspace other commit) (IsOpen workspace.objects)
commit_merged_open digest workspace good other commit is =
    then_good (IsCommitOf workspace.objects) (IsOpen workspace.objects) (commit_in workspace other) _
    (commit_good digest workspace (objects_are _ _ good) other)
    (λ id k. stays_open workspace.objects (merged id commit) (merged_ref id commit is.ref)
    (merged_has id commit is.files)
    (λ next e. merge_keeps workspace.objects commit next is.good id k e))

-- ---- contents that come with their file

pub record LeavesOpen (digest : List ℕ → List ℕ) (os : List Object) (left : Left) : Type 0 where
  pub grows : GrowGood digest os left.objects
  pub open_commit : IsOpen left.objects left.commit

pub contents_open : (digest : List ℕ → List ℕ) → AnswersNames digest → (os : List Object)
    → AreObjects digest os → (commit : OpenCommit) → IsOpen os commit
    → (file_mode : FileMode) (path : Path) → IsPath path → (bytes : List ℕ)
    → IfOk (changed_or (contents_put digest os file_mode path bytes commit)) (LeavesOpen digest os)
contents_open digest names os good commit is file_mode path of_tree bytes =
    by_left (contents_put digest os file_mode path bytes commit)
    (contents_ref digest os file_mode path bytes commit is.ref)
    (contents_has digest names os commit is.files file_mode path of_tree bytes)
    (λ left e. contents_keep digest names os good commit is.good is.files file_mode path bytes left e)
  where
    by_left : (r : Result Left CommitFault) → IfOk r (λ left. HasRef left.commit)
        → IfOk r (λ left. HasFiles left.commit)
        → ((left : Left) → r ≡ Ok left
        → GrowGood digest os left.objects × IsGoodCommit left.objects left.commit)
        → IfOk (changed_or r) (LeavesOpen digest os)
    by_left (Ok left) ref files good = let both = good left refl in
        record { grows = both.0; open_commit = record { ref = ref; good = both.1; files = files } }
    by_left (Err e) ref files good = tt

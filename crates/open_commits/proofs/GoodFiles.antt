-- The files of an open commit stay those of a branch.
use Rattle.std.proofs.Common.{◌≡◌, ◌≢◌, ℕ, Bool, true, false, List, [], ◌∷◌, Option, None, Some, Result, Ok, Err, refl, sym, subst}
use Rattle.std.specs.Prelude.{IfOk}
use Rattle.git_model.specs.declared.file_mode.FileMode.{FileMode}
use Rattle.git_model.specs.declared.file_mode.FileMode.TheVariants as mode
use Rattle.git_model.specs.declared.kind.Kind.{Kind}
use Rattle.git_model.specs.declared.kind.Kind.TheVariants as kind
use Rattle.git_model.specs.Content.{Content, content_from, name_by}
use Rattle.git_model.specs.GoodRepository.{AreObjects}
use Rattle.git_model.specs.ObjectName.{IsObjectName, object_name}
use Rattle.git_model.specs.Peeling.{is_of}
use Rattle.git_model.specs.References.{kind_named}
use Rattle.git_model.specs.Repository.{Object, object_named}
use Rattle.git_model.proofs.Peelings.{is_of_kind}
use Rattle.git_names.specs.Naming.{AnswersNames}
use Rattle.std.proofs.lemmas.List.Elements.{All-nil}
use Rattle.git_paths.specs.Paths.{IsComponent, IsPath}
use Rattle.stream_grammar.specs.declared.data_ref.DataRef.{DataRef}
use Rattle.stream_grammar.specs.declared.data_ref.DataRef.TheVariants as data_ref
use Rattle.stream_grammar.specs.WellFormed.{IsReferred}
use Rattle.tenant_tables.proofs.StoredGood.{there}
use Rattle.file_maps.specs.declared.entry.Entry.{Entry}
use Rattle.file_maps.specs.declared.fault.Fault.{Fault as FilesFault}
use Rattle.file_maps.specs.Edits.{copied, files_at, move_fault, moved, put_at, put_fault, put_tree_at, renamed}
use Rattle.file_maps.specs.FileMap.{AreFiles, FileMap, Listed, Path, listed}
use Rattle.file_maps.specs.StoredFiles.{stored_files, tree_of_commit}
use Rattle.file_maps.specs.Grafts.{graft_fault, tree_fault}
use Rattle.file_maps.proofs.Grafting.{or_parts}
use Rattle.file_maps.proofs.EditedMaps.{AllEntries, IsMapOf, copied-is, file-put-is, renamed-is, without-is}
use Rattle.file_maps.proofs.StoredPut.{stored-put}
use Rattle.open_commits.specs.declared.fault.Fault.{Fault}
use Rattle.open_commits.specs.declared.fault.Fault.TheVariants as fault
use Rattle.git_model.specs.Results.{and_then, or_fault}
use Rattle.open_commits.specs.OpenCommit.{OpenCommit}
use Rattle.open_commits.specs.GoodCommits.{AreMarks}
use Rattle.open_commits.specs.OpenFiles.{HasFiles}
use Rattle.open_commits.specs.Storing.{stored}
use Rattle.open_commits.specs.Parents.{changed_to, started_from}
use Rattle.open_commits.specs.Changes.{Left, Marks, blob_of, blob_put, contents_put, copied_to, deleted, entry_of, file_put, held_as, link_of, marked_as, marked_object, modified, renamed_to, tree_of, tree_put}
use Rattle.open_commits.proofs.MarkedObjects.{marked_has}
use Rattle.open_commits.proofs.Starting.{starts, with_parent}

then_good : {A B : Type 0} (P : A → Type 0) (Q : B → Type 0) (r : Result A Fault)
    (next : A → Result B Fault)
    → IfOk r P → ((value : A) → P value → IfOk (next value) Q) → IfOk (and_then r next) Q
then_good P Q (Ok value) next good later = later value good
then_good P Q (Err e) next good later = tt

then_any : {A B : Type 0} (Q : B → Type 0) (r : Result A Fault) (next : A → Result B Fault)
    → ((value : A) → IfOk (next value) Q) → IfOk (and_then r next) Q
then_any Q (Ok value) next later = later value
then_any Q (Err e) next later = tt

by_test : {P : Type 0} (test : Bool) → (test ≡ true → P) → (test ≡ false → P) → P
by_test true holds fails = holds refl
by_test false holds fails = fails refl

-- ---- one change

changed_has : (commit : OpenCommit) (files : FileMap) (refusal : Option FilesFault)
    → (refusal ≡ None → AreFiles (listed files)) → IfOk (changed_to commit files refusal) HasFiles
changed_has commit files None are = are refl
changed_has commit files (Some refusal) are = tt

-- nothing is asked of entries here
abbrev Any : Entry → Type 0
Any e = Unit {0}

any_entries : (files : Listed) → AllEntries Any files
any_entries [] = tt
any_entries (f ∷ files) = (tt, any_entries files)

a_map : (m : FileMap) → AreFiles (listed m) → IsMapOf Any m
a_map m are = record { files = are; entries = any_entries (listed m) }

file_put_has : (commit : OpenCommit) → HasFiles commit → (path : Path) → IsPath path
    → (e : Entry) → e.mode ≢ mode.Directory → IsObjectName e.name
    → IfOk (file_put path e commit) HasFiles
file_put_has commit has path is e file name =
    changed_has commit (put_at commit.files path e)
    (put_fault (moved path (([], e) ∷ [])) (put_at commit.files path e))
    (λ none. (file-put-is Any commit.files (a_map commit.files has) path e is file name tt none).files)

tree_put_has : (digest : List ℕ → List ℕ) (os : List Object) → AreObjects digest os
    → (commit : OpenCommit) → HasFiles commit → (path : Path) → IsPath path
    → (tree : List ℕ) → kind_named tree os ≡ Some kind.Tree
    → IfOk (tree_put os path tree commit) HasFiles
tree_put_has digest os good commit has path is tree k =
    let files = stored_files os tree in
    let after = put_tree_at commit.files path files in
    changed_has commit after (graft_fault os tree (moved path files) after) (λ none.
    stored-put digest os good commit.files has tree k path is
    (or_parts (tree_fault os tree) (put_fault (moved path files) after) none).1)

-- ---- what a change names

held_has : (os : List Object) (wanted : Kind) (id : List ℕ)
    → IfOk (held_as os wanted id) (λ n. kind_named n os ≡ Some wanted)
held_has os wanted id =
    then_any (λ (n : List ℕ). kind_named n os ≡ Some wanted)
    (or_fault fault.ObjectUnknown (object_named id os)) _ (λ _.
    by_test (is_of os wanted id)
    (λ is. rw is ((is_of_kind os wanted id).0 is))
    (λ other. rw other tt))

-- ---- modified files

module _ (digest : List ℕ → List ℕ) (os : List Object) (good : AreObjects digest os) where
  name_of : (k : Kind) (id : List ℕ) → kind_named id os ≡ Some k → IsObjectName id
  name_of k id e = (there digest os good id k e).name

  tree_has : (marks : Marks) (object : DataRef)
      → IfOk (tree_of os marks object) (λ n. kind_named n os ≡ Some kind.Tree)
  tree_has marks (data_ref.Mark mark) =
      then_any (λ (n : List ℕ). kind_named n os ≡ Some kind.Tree) (marked_object marks mark) _ (λ _. tt)
  tree_has marks (data_ref.Name id) = held_has os kind.Tree id

  named : (k : Kind) (r : Result (List ℕ) Fault) → IfOk r (λ n. kind_named n os ≡ Some k)
      → IfOk r IsObjectName
  named k (Ok n) held = name_of k n held
  named k (Err e) held = tt

  mark_has : (marks : Marks) → AreMarks os marks → (k : Kind) (mark : ℕ)
      → IfOk (marked_as marks k mark) IsObjectName
  mark_has marks set k mark = named k (marked_as marks k mark) (marked_has os marks set k mark)

  blob_has : (marks : Marks) → AreMarks os marks → (object : DataRef)
      → IfOk (blob_of os marks object) IsObjectName
  blob_has marks set (data_ref.Mark mark) = mark_has marks set kind.Blob mark
  blob_has marks set (data_ref.Name id) =
      named kind.Blob (held_as os kind.Blob id) (held_has os kind.Blob id)

  link_has : (marks : Marks) → AreMarks os marks → (object : DataRef) → IsReferred object
      → IfOk (link_of marks object) IsObjectName
  link_has marks set (data_ref.Mark mark) referred = mark_has marks set kind.Commit mark
  link_has marks set (data_ref.Name id) referred = referred

  put_named : (commit : OpenCommit) → HasFiles commit → (path : Path) → IsPath path
      → (m : FileMode) → m ≢ mode.Directory → (r : Result (List ℕ) Fault) → IfOk r IsObjectName
      → IfOk (and_then r (λ id. file_put path (entry_of m id) commit)) HasFiles
  put_named commit has path is m file r name =
      then_good IsObjectName HasFiles r _ name (λ id n.
      file_put_has commit has path is (entry_of m id) file n)

  pub modified_has : (commit : OpenCommit) → HasFiles commit → (marks : Marks)
      → AreMarks os marks → (m : FileMode) (object : DataRef) → IsReferred object
      → (path : Path) → IsPath path
      → IfOk (modified os marks m object path commit) HasFiles
  modified_has commit has marks set mode.Directory object referred path is =
      then_good (λ (n : List ℕ). kind_named n os ≡ Some kind.Tree) HasFiles (tree_of os marks object) _
      (tree_has marks object) (λ id k. tree_put_has digest os good commit has path is id k)
  modified_has commit has marks set mode.Gitlink object referred path is =
      put_named commit has path is mode.Gitlink (λ e. cc) (link_of marks object)
      (link_has marks set object referred)
  modified_has commit has marks set mode.Regular object referred path is =
      put_named commit has path is mode.Regular (λ e. cc) (blob_of os marks object)
      (blob_has marks set object)
  modified_has commit has marks set mode.Executable object referred path is =
      put_named commit has path is mode.Executable (λ e. cc) (blob_of os marks object)
      (blob_has marks set object)
  modified_has commit has marks set mode.Symlink object referred path is =
      put_named commit has path is mode.Symlink (λ e. cc) (blob_of os marks object)
      (blob_has marks set object)

  parent_has : (id : List ℕ) (r : Result OpenCommit Fault) → IfOk r HasFiles
      → IfOk (with_parent id r) HasFiles
  parent_has id (Ok commit) has = has
  parent_has id (Err e) has = tt

  pub started_has : (commit : OpenCommit) → HasFiles commit → (id : List ℕ)
      → kind_named (tree_of_commit os id) os ≡ Some kind.Tree
      → IfOk (started_from os id commit) HasFiles
  started_has commit has id k =
      subst (λ (r : Result OpenCommit Fault). IfOk r HasFiles)
      (sym (starts os id (tree_of_commit os id) commit refl))
      (parent_has id (tree_put os [] (tree_of_commit os id) commit)
      (tree_put_has digest os good commit has [] root (tree_of_commit os id) k))
    where
      root : IsPath []
      root = All-nil IsComponent

-- ---- contents that come with their file

-- What is left has such files.
abbrev pub LeavesFiles : Left → Type 0
LeavesFiles left = HasFiles left.commit

name_by_is : (digest : List ℕ → List ℕ) → AnswersNames digest → (content : Content)
    → IsObjectName (name_by digest content)
unfolding object_name
name_by_is digest names content = names _

blob_put_has : (digest : List ℕ → List ℕ) → AnswersNames digest → (os : List Object)
    (commit : OpenCommit) → HasFiles commit → (m : FileMode) → m ≢ mode.Directory
    → (path : Path) → IsPath path → (blob : Content)
    → IfOk (blob_put digest os m path blob commit) LeavesFiles
blob_put_has digest names os commit has m file path is blob =
    then_good HasFiles LeavesFiles (file_put path (entry_of m (name_by digest blob)) commit) _
    (file_put_has commit has path is (entry_of m (name_by digest blob)) file
    (name_by_is digest names blob))
    (λ next good. then_any LeavesFiles (stored digest blob os) _ (λ more. good))

pub contents_has : (digest : List ℕ → List ℕ) → AnswersNames digest → (os : List Object)
    (commit : OpenCommit) → HasFiles commit → (m : FileMode) (path : Path) → IsPath path
    → (bytes : List ℕ) → IfOk (contents_put digest os m path bytes commit) LeavesFiles
contents_has digest names os commit has mode.Directory path is bytes = tt
contents_has digest names os commit has mode.Gitlink path is bytes = tt
contents_has digest names os commit has mode.Regular path is bytes =
    blob_put_has digest names os commit has mode.Regular (λ e. cc) path is
    (content_from kind.Blob bytes)
contents_has digest names os commit has mode.Executable path is bytes =
    blob_put_has digest names os commit has mode.Executable (λ e. cc) path is
    (content_from kind.Blob bytes)
contents_has digest names os commit has mode.Symlink path is bytes =
    blob_put_has digest names os commit has mode.Symlink (λ e. cc) path is
    (content_from kind.Blob bytes)

-- ---- the others

pub deleted_has : (commit : OpenCommit) → HasFiles commit → (path : Path)
    → HasFiles (deleted path commit)
deleted_has commit has path = (without-is Any commit.files (a_map commit.files has) path).files

pub copied_has : (commit : OpenCommit) → HasFiles commit → (source path : Path) → IsPath path
    → IfOk (copied_to source path commit) HasFiles
copied_has commit has source path is =
    changed_has commit (copied commit.files source path)
    (move_fault (moved path (files_at commit.files source)) (copied commit.files source path))
    (λ none. (copied-is Any commit.files (a_map commit.files has) source path is none).files)

pub renamed_has : (commit : OpenCommit) → HasFiles commit → (source path : Path) → IsPath path
    → IfOk (renamed_to source path commit) HasFiles
renamed_has commit has source path is =
    changed_has commit (renamed commit.files source path)
    (move_fault (moved path (files_at commit.files source)) (renamed commit.files source path))
    (λ none. (renamed-is Any commit.files (a_map commit.files has) source path is none).files)

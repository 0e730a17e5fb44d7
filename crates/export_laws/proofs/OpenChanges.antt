-- The files of an open commit: all go, and those of its tree are put one by one.
use Rattle.std.proofs.Common.{◌≡◌, ◌≢◌, ℕ, Bool, true, if◌then◌else◌, List, [], ◌∷◌, map, Option, None, Result, Ok, Err, refl, ap, ◌∙◌}
use Rattle.std.specs.FinMap as finmap
use Rattle.std.specs.List.{AllByRecursion}
use Rattle.std.specs.Str.{bytes_eq}
use Rattle.std.proofs.lemmas.Slice.Eq.{bytes_eq-Decides}
use Rattle.git_model.specs.declared.file_mode.FileMode.{FileMode}
use Rattle.git_model.specs.declared.file_mode.FileMode.TheVariants as mode
use Rattle.git_model.specs.declared.kind.Kind.TheVariants as kind
use Rattle.git_model.specs.Kind.{kind_word}
use Rattle.git_model.specs.Repository.{Object}
use Rattle.file_maps.specs.declared.entry.Entry.{Entry}
use Rattle.file_maps.specs.Edits.{moved, put_at, put_fault}
use Rattle.file_maps.specs.FileMap.{FileMap, Listed, Path}
use Rattle.stream_grammar.specs.declared.marked_object.MarkedObject.{MarkedObject}
use Rattle.stream_grammar.specs.Acts.{Change}
use Rattle.stream_grammar.specs.Acts.{Modify, DeleteAll}
use Rattle.open_commits.specs.declared.fault.Fault.{Fault as CommitFault}
use Rattle.open_commits.specs.declared.fault.Fault.TheVariants as commit_fault
use Rattle.open_commits.specs.Changes.{blob_of, entry_of, file_put, modified, name_as}
use Rattle.git_model.specs.Results.{and_then, or_fault}
use Rattle.open_commits.specs.OpenCommit.{OpenCommit}
use Rattle.open_commits.specs.Parents.{changed_to}
use Rattle.import_session.specs.Changes.{files_changed}
use Rattle.stream_commands.specs.Faults.{changed_or}
use Rattle.import_session.specs.Meaning.{after_act}
use Rattle.stream_commands.specs.Workspace.{Workspace, quiet}
use Rattle.export_text.specs.ExportActs.{act_of_file, asks, dataref}
use Rattle.export_laws.specs.Leaving.{Leaves, nothing}
use Rattle.export_laws.specs.Putting.{Puts, nothing as none_put, first_file}
use Rattle.export_laws.proofs.Acts.{asked}
use Rattle.export_laws.proofs.OpenParents.{IsToldAs, with_open}

-- A file may be told: it is no directory, and where it is no gitlink its blob was told.
pub record MayTell (os : List Object) (w : Workspace) (f : Path × Entry) : Type 0 where
  pub no_tree : f.1.mode ≢ mode.Directory
  pub blob : f.1.mode ≢ mode.Gitlink → IsToldAs os w f.1.name kind.Blob

-- ---- what a file names

abbrev if_so : List ℕ → Bool → Result (List ℕ) CommitFault
if_so id yea = if yea then Ok id else Err commit_fault.WrongKind

is-blob : bytes_eq (kind_word kind.Blob) (kind_word kind.Blob) ≡ true
is-blob = (bytes_eq-Decides (kind_word kind.Blob) (kind_word kind.Blob)).1 refl

blob-named : (os : List Object) (w : Workspace) (id : List ℕ) → IsToldAs os w id kind.Blob
    → (m : FileMode) → dataref os m id ≡ dataref os mode.Regular id
    → blob_of w.objects w.stream.marks (dataref os m id) ≡ Ok id
blob-named os w id told m same =
    ap (blob_of w.objects w.stream.marks) same
    ∙ ap (λ (found : Option MarkedObject). and_then (or_fault commit_fault.MarkUnknown found)
    (name_as kind.Blob)) told.mark
    ∙ ap (if_so id) is-blob

-- ---- one file

put-so : (path : Path) (e : Entry) (commit : OpenCommit) (next : FileMap)
    → put_at commit.files path e ≡ next → put_fault (moved path (([], e) ∷ [])) next ≡ None
    → file_put path e commit ≡ Ok (record commit { files = next })
put-so path e commit next is none =
    ap (λ (m : FileMap). changed_to commit m (put_fault (moved path (([], e) ∷ [])) m)) is
    ∙ ap (changed_to commit next) none

named-put : (named : Result (List ℕ) CommitFault) (m : FileMode) (id : List ℕ) (path : Path)
    (commit next : OpenCommit) → named ≡ Ok id → file_put path (entry_of m id) commit ≡ Ok next
    → and_then named (λ id. file_put path (entry_of m id) commit) ≡ Ok next
named-put named m id path commit next is put =
    ap (λ (r : Result (List ℕ) CommitFault). and_then r (λ id. file_put path (entry_of m id) commit)) is ∙ put

modifies : (os : List Object) (w : Workspace) (m : FileMode) (id : List ℕ) (path : Path)
    (commit next : OpenCommit) → m ≢ mode.Directory
    → (m ≢ mode.Gitlink → IsToldAs os w id kind.Blob)
    → file_put path (entry_of m id) commit ≡ Ok next
    → modified w.objects w.stream.marks m (dataref os m id) path commit ≡ Ok next
modifies os w mode.Directory id path commit next no_tree blob put = absurd (no_tree refl)
modifies os w mode.Gitlink id path commit next no_tree blob put = put
modifies os w mode.Regular id path commit next no_tree blob put =
    named-put (blob_of w.objects w.stream.marks (dataref os mode.Regular id)) mode.Regular id path commit next
    (blob-named os w id (blob (λ e. cc)) mode.Regular refl) put
modifies os w mode.Executable id path commit next no_tree blob put =
    named-put (blob_of w.objects w.stream.marks (dataref os mode.Executable id)) mode.Executable id path commit next
    (blob-named os w id (blob (λ e. cc)) mode.Executable refl) put
modifies os w mode.Symlink id path commit next no_tree blob put =
    named-put (blob_of w.objects w.stream.marks (dataref os mode.Symlink id)) mode.Symlink id path commit next
    (blob-named os w id (blob (λ e. cc)) mode.Symlink refl) put

file-told : (digest : List ℕ → List ℕ) (os : List Object) (w : Workspace) (f : Path × Entry)
    (commit next : OpenCommit) → MayTell os w f → file_put f.0 f.1 commit ≡ Ok next
    → after_act digest (Change (Modify f.1.mode (dataref os f.1.mode f.1.name) f.0)) (with_open w commit)
    ≡ quiet (with_open w next)
unfolding after_act files_changed
file-told digest os w f commit next may put =
    ap (λ (r : Result OpenCommit CommitFault). and_then (changed_or r) (λ next. quiet (with_open w next)))
    (modifies os w f.1.mode f.1.name f.0 commit next may.no_tree may.blob put)

-- ---- all of them

deletes-all : (digest : List ℕ → List ℕ) (w : Workspace) (commit : OpenCommit)
    → after_act digest (Change DeleteAll) (with_open w commit)
    ≡ quiet (with_open w (record commit { files = finmap.empty }))
unfolding after_act files_changed
deletes-all digest w commit = refl

module _ (digest : List ℕ → List ℕ) (os : List Object) (w : Workspace) (commit : OpenCommit) where
  abbrev with_map : FileMap → Workspace
  with_map m = with_open w (record commit { files = m })

  files-told : {files : Listed} {m left : FileMap} → Puts files m left
      → AllByRecursion (MayTell os w) files
      → Leaves digest (map (act_of_file os) files) (with_map m) (with_map left)
  files-told (none_put m) may = nothing _
  files-told (first_file f files m next left is none rest) may =
      asked digest _ _ _ _ _
      (file-told digest os w f (record commit { files = m }) (record commit { files = next }) may.0
      (put-so f.0 f.1 (record commit { files = m }) next is none))
      (files-told rest may.1)

  pub changes-told : (files : Listed) (left : FileMap) → Puts files finmap.empty left
      → AllByRecursion (MayTell os w) files
      → Leaves digest (asks (Change DeleteAll) ∷ map (act_of_file os) files) (with_open w commit) (with_map left)
  changes-told files left puts may =
      asked digest _ _ _ _ _ (deletes-all digest w commit) (files-told puts may)

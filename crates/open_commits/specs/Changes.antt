-- Changes to the files of a commit: git-fast-import(1), "filemodify" to "filedeleteall".
pub use Rattle.stream_marks.specs.View.{Marks}
use Rattle.std.specs.Prelude.{ℕ, nat_eq, if◌then◌else◌, List, [], ◌∷◌, Result, Ok, Err}
use Rattle.std.specs.FinMap as finmap
use Rattle.std.specs.Map.{lookup}
use Rattle.std.specs.Str.{bytes_eq}
use Rattle.git_model.specs.declared.file_mode.FileMode.{FileMode}
use Rattle.git_model.specs.declared.file_mode.FileMode.TheVariants as mode
use Rattle.git_model.specs.declared.kind.Kind.{Kind}
use Rattle.git_model.specs.declared.kind.Kind.TheVariants as kind
use Rattle.git_model.specs.Content.{Content, content_from, name_by}
use Rattle.git_model.specs.Kind.{kind_word}
use Rattle.git_model.specs.Peeling.{is_of}
use Rattle.git_model.specs.Repository.{Object, object_named}
use Rattle.file_maps.specs.declared.entry.Entry.{Entry}
use Rattle.file_maps.specs.Edits.{files_at, moved, put_at, put_tree_at, without, copied, renamed, put_fault, move_fault}
use Rattle.file_maps.specs.FileMap.{Path}
use Rattle.file_maps.specs.Grafts.{graft_fault}
use Rattle.file_maps.specs.StoredFiles.{stored_files}
use Rattle.stream_grammar.specs.declared.data_ref.DataRef.{DataRef}
use Rattle.stream_grammar.specs.declared.data_ref.DataRef.TheVariants as data_ref
use Rattle.stream_grammar.specs.declared.marked_object.MarkedObject.{MarkedObject}
use Rattle.open_commits.specs.declared.fault.Fault.{Fault}
use Rattle.open_commits.specs.declared.fault.Fault.TheVariants as fault
use Rattle.git_model.specs.Results.{and_then, or_fault}
use Rattle.open_commits.specs.OpenCommit.{OpenCommit}
use Rattle.open_commits.specs.Storing.{stored}
use Rattle.open_commits.specs.Parents.{changed_to}

-- ---- what a change names

-- The object that a mark stands for.
abbrev pub marked_object : Marks → ℕ → Result MarkedObject Fault
marked_object marks mark = or_fault fault.MarkUnknown (lookup (nat_eq mark) marks)

-- Its name, if it is of a kind.
abbrev pub name_as : Kind → MarkedObject → Result (List ℕ) Fault
name_as wanted object =
    if bytes_eq (kind_word object.kind) (kind_word wanted) then Ok object.name
    else Err fault.WrongKind

-- The name of the object that a mark stands for, if it is of a kind.
abbrev pub marked_as : Marks → Kind → ℕ → Result (List ℕ) Fault
marked_as marks wanted mark = and_then (marked_object marks mark) (name_as wanted)

-- The object of a name, which must be there and be of a kind.
abbrev pub held_as : List Object → Kind → List ℕ → Result (List ℕ) Fault
held_as os wanted id =
    and_then (or_fault fault.ObjectUnknown (object_named id os)) (λ _.
    if is_of os wanted id then Ok id else Err fault.WrongKind)

-- The object of a gitlink: a commit by its mark, or any name.
abbrev pub link_of : Marks → DataRef → Result (List ℕ) Fault
link_of marks (data_ref.Mark mark) = marked_as marks kind.Commit mark
link_of marks (data_ref.Name id) = Ok id

-- The tree of a directory, by its name alone: no mark stands for a tree.
abbrev pub tree_of : List Object → Marks → DataRef → Result (List ℕ) Fault
tree_of os marks (data_ref.Mark mark) =
    and_then (marked_object marks mark) (λ _. Err fault.WrongKind)
tree_of os marks (data_ref.Name id) = held_as os kind.Tree id

-- The blob of a file, by its mark or its name.
abbrev pub blob_of : List Object → Marks → DataRef → Result (List ℕ) Fault
blob_of os marks (data_ref.Mark mark) = marked_as marks kind.Blob mark
blob_of os marks (data_ref.Name id) = held_as os kind.Blob id

-- ---- filemodify

-- An entry of this mode and this object.
abbrev pub entry_of : FileMode → List ℕ → Entry
entry_of mode id = record { mode = mode; name = id }

-- Puts a file at a path, and replaces what is there.
abbrev pub file_put : Path → Entry → OpenCommit → Result OpenCommit Fault
file_put path e commit = let after = put_at commit.files path e in
    changed_to commit after (put_fault (moved path (([], e) ∷ [])) after)

-- Puts the files of a stored tree at and below a path, and replaces what is there. The tree must
-- have a summary. The empty tree has no files, so that it only removes what is there.
abbrev pub tree_put : List Object → Path → List ℕ → OpenCommit → Result OpenCommit Fault
tree_put os path tree commit = let files = stored_files os tree in
    let after = put_tree_at commit.files path files in
    changed_to commit after (graft_fault os tree (moved path files) after)

-- 'M', by the mode: a directory stands for the files of its tree, any other mode for one file.
abbrev pub modified : List Object → Marks → FileMode → DataRef → Path → OpenCommit
    → Result OpenCommit Fault
modified os marks mode.Directory object path commit =
    and_then (tree_of os marks object) (λ id. tree_put os path id commit)
modified os marks mode.Gitlink object path commit =
    and_then (link_of marks object) (λ id. file_put path (entry_of mode.Gitlink id) commit)
modified os marks file object path commit =
    and_then (blob_of os marks object) (λ id. file_put path (entry_of file id) commit)

-- The commit and the objects after a call that may change both.
pub record Left : Type 0 where
  pub commit : OpenCommit
  pub objects : List Object

-- What a change leaves: the commit, and the objects.
abbrev pub left_with : List Object → OpenCommit → Left
left_with os commit = record { commit = commit; objects = os }

-- 'M' with 'inline', at its data: the file is put, and then its blob is stored.
abbrev pub blob_put : (List ℕ → List ℕ) → List Object → FileMode → Path → Content → OpenCommit
    → Result Left Fault
blob_put digest os mode path blob commit =
    and_then (file_put path (entry_of mode (name_by digest blob)) commit) (λ next.
    and_then (stored digest blob os) (λ more. Ok (left_with more next)))

-- A gitlink and a directory have no contents; the grammar never gives them any.
abbrev pub contents_put : (List ℕ → List ℕ) → List Object → FileMode → Path → List ℕ → OpenCommit
    → Result Left Fault
contents_put digest os mode.Directory path bytes commit = Err fault.WrongKind
contents_put digest os mode.Gitlink path bytes commit = Err fault.WrongKind
contents_put digest os file path bytes commit =
    blob_put digest os file path (content_from kind.Blob bytes) commit

-- ---- the others

-- 'D': removes what is at a path or below it. At the root that is everything.
abbrev pub deleted : Path → OpenCommit → OpenCommit
deleted path commit = record commit { files = without commit.files path }

-- 'C': copies the files at or below one path to another, and replaces what is there.
abbrev pub copied_to : Path → Path → OpenCommit → Result OpenCommit Fault
copied_to source path commit = let after = copied commit.files source path in
    changed_to commit after (move_fault (moved path (files_at commit.files source)) after)

-- 'R': the same, and removes them from the first path.
abbrev pub renamed_to : Path → Path → OpenCommit → Result OpenCommit Fault
renamed_to source path commit = let after = renamed commit.files source path in
    changed_to commit after (move_fault (moved path (files_at commit.files source)) after)

-- 'deleteall'
abbrev pub all_deleted : OpenCommit → OpenCommit
all_deleted commit = record commit { files = finmap.empty }

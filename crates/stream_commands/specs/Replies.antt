-- What is printed: git-fast-import(1), "get-mark", "cat-blob", "ls" and "progress".
use Rattle.std.specs.Prelude.{ℕ, List, ◌++◌, Option, None, Some, Result, codes}
use Rattle.hex.specs.Hex.{encode_lower}
use Rattle.git_model.specs.Repository.{object_named}
use Rattle.git_objects.specs.Listing.{listing}
use Rattle.git_paths.specs.Paths.{joined}
use Rattle.git_paths.specs.Quoting.{quoted}
use Rattle.file_maps.specs.declared.entry.Entry.{Entry}
use Rattle.file_maps.specs.FileMap.{Path}
use Rattle.stream_grammar.specs.Acts.{ReplyCommand, GetMark, CatBlob, Ls, LsInCommit, Progress}
use Rattle.open_commits.specs.OpenCommit.{OpenCommit}
use Rattle.open_commits.specs.Showing.{commit_entry_shown}
use Rattle.stream_parts.specs.declared.fault.Fault.{Fault}
use Rattle.git_model.specs.Results.{and_then}
use Rattle.stream_parts.specs.Marks.{marked_name, referred_name}
use Rattle.stream_parts.specs.OpenCommand.{changes_in}
use Rattle.stream_parts.specs.Printing.{shown_object}
use Rattle.stream_parts.specs.Showing.{entry_shown}
use Rattle.stream_commands.specs.Faults.{changed_or}
use Rattle.stream_commands.specs.Workspace.{Workspace, Effect}
use Rattle.stream_commands.specs.Printing.{prints}

-- 'cat-blob' prints the blob of this name.
abbrev pub blob_shown : Workspace → List ℕ → Result Effect Fault
blob_shown workspace id =
    and_then (shown_object id (object_named id workspace.objects)) (λ line. prints workspace line)

-- If nothing is at a path, this is printed: 'missing' SP <path> LF
abbrev pub commit_entry_line : Path → Option Entry → List ℕ
commit_entry_line path None = codes "missing " ++ quoted (joined path)
commit_entry_line path (Some e) = listing e.mode e.name (joined path)

-- 'ls' prints what is at a path of a commit. The trees that it shows are stored.
abbrev pub branch_entry_shown : (List ℕ → List ℕ) → Path → OpenCommit → Workspace
    → Result Effect Fault
branch_entry_shown digest path commit workspace =
    and_then (changed_or (commit_entry_shown digest workspace.objects commit.files path))
    (λ shown.
    prints (record workspace { objects = shown.objects }) (commit_entry_line path shown.entry))

-- What a command prints. All but 'ls' in a commit leave the workspace as it is.
unfoldable pub replied : (List ℕ → List ℕ) → ReplyCommand → Workspace → Result Effect Fault
-- 'get-mark': the name of the object.
replied digest (GetMark mark) workspace =
    and_then (marked_name workspace.stream.marks mark) (λ id. prints workspace (encode_lower id))
-- 'cat-blob': the name, the size and the bytes of the blob.
replied digest (CatBlob object) workspace =
    and_then (referred_name workspace.stream.marks object) (λ id. blob_shown workspace id)
-- 'ls' with a dataref: what is at a path of its tree.
replied digest (Ls root path) workspace =
    and_then (entry_shown workspace.objects workspace.stream.marks root path) (λ line.
    prints workspace line)
-- 'ls' with a path alone: what is there in the open commit, whose trees up to there are stored.
replied digest (LsInCommit path) workspace =
    and_then (changes_in workspace.stream.command) (λ commit.
    branch_entry_shown digest path commit workspace)
-- 'progress': the whole line.
replied digest (Progress line) workspace = prints workspace line

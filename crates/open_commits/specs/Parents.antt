-- The parents of a commit: git-fast-import(1), "from" and "merge".
use Rattle.std.specs.Prelude.{ℕ, nat_lt, if◌then◌else◌, List, [], ◌∷◌, ◌++◌, length, Option, None, Some, Result, Ok, Err}
use Rattle.git_model.specs.GoodRepository.{parents_limit}
use Rattle.git_model.specs.Repository.{Object}
use Rattle.file_maps.specs.declared.fault.Fault.{Fault as FilesFault}
use Rattle.file_maps.specs.FileMap.{FileMap}
use Rattle.file_maps.specs.Grafts.{graft_fault}
use Rattle.file_maps.specs.StoredFiles.{stored_files, tree_of_commit, commit_map}
use Rattle.open_commits.specs.declared.fault.Fault.{Fault}
use Rattle.open_commits.specs.declared.fault.Fault.TheVariants as fault
use Rattle.open_commits.specs.Faults.{editing_fault}
use Rattle.open_commits.specs.OpenCommit.{OpenCommit}

-- The commit with these files, unless they are refused.
abbrev pub changed_to : OpenCommit → FileMap → Option FilesFault → Result OpenCommit Fault
changed_to commit files None = Ok (record commit { files = files })
changed_to commit files (Some refusal) = Err (editing_fault refusal)

-- 'from': the commit becomes the only parent, and the files become those of its tree. They are
-- refused if the tree has no summary, so that they cannot be those of a branch.
abbrev pub started_from : List Object → List ℕ → OpenCommit → Result OpenCommit Fault
started_from os id commit =
    let tree = tree_of_commit os id in
    changed_to (record commit { parents = id ∷ [] }) (commit_map os id)
    (graft_fault os tree (stored_files os tree) (commit_map os id))

-- 'merge': adds a parent. A commit that is given twice is a parent twice. The first parent counts
-- for the limit too.
abbrev pub merged : List ℕ → OpenCommit → Result OpenCommit Fault
merged id commit =
    if nat_lt (length commit.parents) parents_limit
    then Ok (record commit { parents = commit.parents ++ id ∷ [] })
    else Err fault.Limit

-- How a commit opens, in the steps of the code: `commit_opened`, from the header and from the first
-- parent on.
use Rattle.std.specs.Prelude.{◌≡◌, ℕ, List, Option, None, Some, IfSome, Result, Ok}
use Rattle.git_model.specs.declared.kind.Kind.TheVariants as kind
use Rattle.git_model.specs.References.{kind_named}
use Rattle.git_model.specs.Repository.{Object}
use Rattle.open_commits.specs.Changes.{all_deleted}
use Rattle.open_commits.specs.OpenCommit.{Header, OpenCommit, begun}
use Rattle.open_commits.specs.Parents.{started_from}
use Rattle.stream_parts.specs.declared.fault.Fault.{Fault}
use Rattle.stream_parts.specs.Branches.{branch_set, tip_commit, tip_for}
use Rattle.git_model.specs.Results.{and_then}
use Rattle.stream_parts.specs.OpenCommand.{Changes}
use Rattle.stream_commands.specs.Faults.{changed_or}
use Rattle.stream_commands.specs.Workspace.{Workspace, Effect, quiet}
use Rattle.import_session.specs.Commits.{begun_from}

-- The first parent is a commit among the objects.
abbrev pub IsTipCommit : List Object → Option (List ℕ) → Type 0
IsTipCommit objects first = IfSome first (λ id. kind_named id objects ≡ Some kind.Commit)

-- If there is no first parent, the files that another commit left are dropped.
abbrev pub started_or_cleared : List Object → Option (List ℕ) → OpenCommit
    → Result OpenCommit Fault
started_or_cleared objects None commit = Ok (all_deleted commit)
started_or_cleared objects (Some id) commit = changed_or (started_from objects id commit)

-- The commit opens on its branch, which is one of the stream's from then on. If it has a first
-- parent, it begins with the files of that.
abbrev pub opened_at : Workspace → Option (List ℕ) → OpenCommit → Result Effect Fault
opened_at workspace first commit =
    and_then (branch_set workspace.stream.branches commit.header.ref (tip_for first)) (λ branches.
    and_then (begun_from workspace.objects first commit) (λ opening.
    quiet (record workspace {
      stream = record workspace.stream { branches = branches; command = Changes opening };
    })))

-- The first parent is the commit of the branch, if the stream has that branch at a commit.
abbrev pub opened_with : Workspace → List ℕ → Header → Result Effect Fault
opened_with workspace message header =
    opened_at workspace (tip_commit workspace.stream.branches header.ref) (begun header message)

-- Commit-ishes: git-fast-import(1), "from".
use Rattle.std.specs.Prelude.{ℕ, Bool, false, if◌then◌else◌, List, Option, None, Some, Result, Err}
use Rattle.std.specs.Str.{bytes_eq}
use Rattle.git_model.specs.declared.kind.Kind.TheVariants as kind
use Rattle.revisions.specs.Resolution.{resolved, peeled}
use Rattle.stream_grammar.specs.Names.{CommitIsh, Marked, Expression}
use Rattle.stream_parts.specs.declared.branches.Tip.{Tip}
use Rattle.stream_parts.specs.declared.fault.Fault.{Fault}
use Rattle.stream_parts.specs.declared.fault.Fault.TheVariants as fault
use Rattle.git_model.specs.Results.{and_then, or_fault}
use Rattle.stream_parts.specs.Faults.{resolved_or}
use Rattle.stream_commands.specs.Workspace.{Workspace}
use Rattle.stream_parts.specs.Marks.{marked_name}
use Rattle.stream_parts.specs.Branches.{ref_meant, tip_of, commit_at}

-- The ref that words name, if they are a ref name.
abbrev pub ref_in : Workspace → List ℕ → List ℕ
ref_in workspace words = ref_meant workspace.stream.head workspace.refs words

-- A branch of the stream stands for its commit. Any other words are an expression, over all objects
-- so far and the refs as last saved.
abbrev pub branch_or_expression : Workspace → List ℕ → Option Tip → Result (List ℕ) Fault
branch_or_expression workspace words None =
    resolved_or (resolved workspace.objects workspace.refs words)
branch_or_expression workspace words (Some tip) = or_fault fault.UnknownRevision (commit_at tip)

-- The name of the object that a commit-ish stands for.
abbrev pub named_in : Workspace → CommitIsh → Result (List ℕ) Fault
named_in workspace (Marked mark) = marked_name workspace.stream.marks mark
named_in workspace (Expression words) =
    branch_or_expression workspace words (tip_of workspace.stream.branches (ref_in workspace words))

-- The commit that a commit-ish is peeled to.
abbrev pub commit_in : Workspace → CommitIsh → Result (List ℕ) Fault
commit_in workspace commit =
    and_then (named_in workspace commit) (λ id.
    resolved_or (peeled workspace.objects kind.Commit id))

-- Whether a commit-ish is a branch itself, perhaps as `HEAD`.
abbrev pub is_branch : Workspace → List ℕ → CommitIsh → Bool
is_branch workspace ref (Marked mark) = false
is_branch workspace ref (Expression words) = bytes_eq (ref_in workspace words) ref

-- The commit that a branch starts from. It may not be the branch itself, which is judged first.
abbrev pub start_in : Workspace → List ℕ → CommitIsh → Result (List ℕ) Fault
start_in workspace ref commit =
    if is_branch workspace ref commit then Err fault.BranchFromItself
    else commit_in workspace commit

-- Resets and aliases: git-fast-import(1), "reset" and "alias".
use Rattle.std.specs.Prelude.{ℕ, Bool, false, if◌then◌else◌, List, replicate, Some, Result, Ok}
use Rattle.std.specs.Str.{bytes_eq}
use Rattle.git_model.specs.declared.kind.Kind.TheVariants as kind
use Rattle.stream_grammar.specs.Acts.{RefCommand, Reset, ResetFrom, Alias}
use Rattle.stream_grammar.specs.Names.{CommitIsh, Marked, Expression}
use Rattle.stream_parts.specs.declared.branches.Tip.{Tip}
use Rattle.stream_parts.specs.declared.branches.Tip.TheVariants.{Unborn, Deleted, At}
use Rattle.stream_parts.specs.declared.fault.Fault.{Fault}
use Rattle.git_model.specs.Results.{and_then}
use Rattle.stream_parts.specs.OpenCommand as open_command
use Rattle.stream_parts.specs.OpenCommand.{reset_in}
use Rattle.stream_commands.specs.Workspace.{Workspace, Effect, quiet}
use Rattle.stream_parts.specs.Marks.{room_for, with_mark}
use Rattle.stream_parts.specs.Branches.{branch_set, with_branch}
use Rattle.stream_commands.specs.CommitIshes.{ref_in, commit_in, start_in}

-- A branch becomes unborn, whatever it was.
abbrev pub branch_unborn : List ℕ → Workspace → Result Effect Fault
branch_unborn ref workspace =
    and_then (branch_set workspace.stream.branches ref Unborn) (λ branches.
    quiet (record workspace {
      stream = record workspace.stream {
        branches = branches;
        command = open_command.Reset ref;
      };
    }))

-- Forty zeros, in a reset alone, stand for no commit.
unfoldable pub is_zeros : CommitIsh → Bool
is_zeros (Marked mark) = false
is_zeros (Expression words) = bytes_eq words (replicate 40 48)

-- 'from' in a reset: the branch is marked as deleted, or is at the commit.
abbrev pub tip_from : Workspace → List ℕ → CommitIsh → Result Tip Fault
tip_from workspace ref from =
    if is_zeros from then Ok Deleted
    else and_then (start_in workspace ref from) (λ id. Ok (At id))

-- The branch is set to the tip that its 'from' gives, and no command is open.
abbrev pub branch_placed : CommitIsh → List ℕ → Workspace → Result Effect Fault
branch_placed from ref workspace =
    and_then (tip_from workspace ref from) (λ tip. quiet (record workspace {
      stream = record workspace.stream {
        branches = with_branch workspace.stream.branches ref tip;
        command = open_command.Nothing;
      };
    }))

-- A mark is set to a commit, and nothing is stored. The limit on marks is judged last.
abbrev pub alias_set : ℕ → CommitIsh → Workspace → Result Effect Fault
alias_set mark commit workspace =
    and_then (commit_in workspace commit) (λ id.
    and_then (room_for workspace.stream.marks (Some mark)) (λ _.
    quiet (record workspace {
      stream = record workspace.stream {
        marks = with_mark workspace.stream.marks (Some mark) kind.Commit id;
      };
    })))

-- What a line of a reset or of an alias leaves.
unfoldable pub ref_set : RefCommand → Workspace → Result Effect Fault
-- 'reset': makes its branch unborn.
ref_set (Reset ref) workspace = branch_unborn (ref_in workspace ref) workspace
-- 'from': the branch that was reset is marked as deleted, or is at the commit.
ref_set (ResetFrom from) workspace =
    and_then (reset_in workspace.stream.command) (λ ref. branch_placed from ref workspace)
-- 'alias': sets its mark to the commit.
ref_set (Alias mark commit) workspace = alias_set mark commit workspace

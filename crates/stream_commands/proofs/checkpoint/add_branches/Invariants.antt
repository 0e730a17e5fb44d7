use Rattle.std.proofs.Common.{◌≡◌, ◌++◌, ℕ, take}
use Rattle.git_model.specs.HeldObjects.{AreHeld}
use Rattle.tenant_refs.specs.Changes.{with_changes}
use Rattle.stream_commands.specs.Checkpoints.{by_branches, kept_lines}
use Rattle.stream_commands.specs.State.{state_shown, workspace_over}
use Rattle.stream_commands.proofs.checkpoint.add_branches.Given as goal

-- those before the place were added
abbrev pub invariant-loop-place : goal.invariant-loop-place
invariant-loop-place g l = record {
  same : l.ancestry ≡ l.fn.ancestry;
  saved : (committed : ℕ) → AreHeld g.N.Naming.digest_of l.fn.ancestry
      → let workspace = workspace_over (state_shown l.state) l.fn.ancestry committed l.refs in
      (with_changes l.refs l.saving.changes.items ≡ by_branches workspace
      (with_changes l.refs l.fn.saving.changes.items) (take l.place l.state.branches))
      × (l.saving.kept.items
      ≡ l.fn.saving.kept.items ++ kept_lines workspace (take l.place l.state.branches));
}

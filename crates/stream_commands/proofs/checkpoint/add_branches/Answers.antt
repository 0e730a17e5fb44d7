use Rattle.std.proofs.Common.{◌++◌, List, ℕ, sym, ap, ◌∙◌, arith}
use Rattle.std.proofs.lemmas.Grind.{common_steps}
use Rattle.git_model.specs.RefStore.{RefStore}
use Rattle.git_model.specs.Repository.{Object}
use Rattle.stream_commands.specs.Checkpoints.{saved_by, kept_by}
use Rattle.stream_commands.specs.State.{state_shown, workspace_over}
use Rattle.stream_commands.proofs.CheckpointLemmas.{saved_next, kept_next}
use Rattle.stream_commands.proofs.checkpoint.add_branches.Goals as goal

pub loop-place-preserved : goal.loop-place-preserved
loop-place-preserved g c = record {
  same = c.in_ok-add_branch.ensures.same ∙ c.loop-place.invariant.same;
  saved = λ committed good.
      let over = λ (os : List Object). workspace_over (state_shown c.args.state.now) os committed c.args.refs.now in
      let workspace = over c.args.ancestry.now in
      let step = (rw c.loop-place.invariant.same at c.in_ok-add_branch.ensures.saved) committed good in
      let before = c.loop-place.invariant.saved committed good in (
        step.0
            ∙ ap (λ (store : RefStore).
            saved_by workspace store c.unwrap-branch.result.0.now c.unwrap-branch.result.1.now) before.0
            ∙ saved_next workspace _ workspace.stream.branches c.loop-place.place _ _
            (sym (rw c.unwrap-branch.ensures at c.at.ensures.branch)),
        step.1
            ∙ ap (λ (kept : List ℕ).
            kept ++ kept_by workspace c.unwrap-branch.result.0.now c.unwrap-branch.result.1.now) before.1
            ∙ kept_next workspace _ workspace.stream.branches c.loop-place.place _ _
            (sym (rw c.unwrap-branch.ensures at c.at.ensures.branch)),
      );
}

pub returns-clause-saved : goal.returns-clause-saved
returns-clause-saved g c committed good =
    let saved = c.loop-place.invariant.saved committed good in
    grind (arith, common_steps)

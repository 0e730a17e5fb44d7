use Rattle.std.proofs.Common.{List, ℕ, Option, ap, ◌∙◌, ◌++◌, rules}
use Rattle.stream_parts.specs.Checkpoints.{by_head}
use Rattle.stream_commands.specs.State.{state_shown}
use Rattle.stream_commands.proofs.CheckpointLemmas.{well_saved}
use Rattle.stream_commands.proofs.checkpoint.save.Goals as goal

pub returns-clause-saved : goal.returns-clause-saved
returns-clause-saved g c good =
    let saving = (rw c.of.ensures at c.in_ok-saving.ensures.saved) c.args.table.now.committed good in
    let done = c.in_ok-carry_out.ensures.done in
    well_saved (state_shown c.args.state.now) c.take.new.self c.clear.new.self.items c.args.pool.now
    c.args.table.now c.commit.new.self c.args.refs.now c.carry_out.new.refs c.save_head.new.refs
    c.args.out.now.items c.carry_out.new.out.items
    (done.0 ∙ saving.0) done.1
    (c.save_head.ensures ∙ ap (λ (head : Option (List ℕ)). by_head c.carry_out.new.refs head)
    c.take.ensures.value)
    c.take.ensures.after c.clear.ensures.items c.commit.ensures
    (done.2 ∙ ap (λ (kept : List ℕ). c.args.out.now.items ++ kept) saving.1)

pub returns-in_err-carry_out-clause-saved : goal.returns-in_err-carry_out-clause-saved
returns-in_err-carry_out-clause-saved g c good =
    let saving = (rw c.of.ensures at c.in_ok-saving.ensures.saved) c.args.table.now.committed good in
    search rules

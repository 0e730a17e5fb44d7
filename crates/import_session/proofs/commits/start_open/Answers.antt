use Rattle.std.proofs.Common.{ap}
use Rattle.std.proofs.lemmas.Result.{err_from_is_err_and}
use Rattle.tenant_tables.specs.Objects.{objects}
use Rattle.stream_grammar.specs.Shown.{commit_shown}
use Rattle.open_commits.specs.OpenCommit.{commit_held}
use Rattle.import_session.specs.Commits.{commit_started, commit_said}
use Rattle.stream_commands.specs.State.{command_shown, state_shown, workspace_in}
use Rattle.import_session.proofs.CommitLemmas.{held_with, left_with, not_changing, put_back}
use Rattle.import_session.proofs.commits.start_open.Goals as goal

pub returns-in_err-commit-clause-done : goal.returns-in_err-commit-clause-done
unfolding commit_said
returns-in_err-commit-clause-done g c out good =
    let failed = err_from_is_err_and c.from_residual.result c.from_residual.ensures.1 in
    rw failed.1 (not_changing (state_shown c.args.state.now) _ (objects c.args.pool.now c.args.table.now.entries)
    c.args.table.now.committed c.args.refs.now _ out
    c.in_err-commit.field-0.0 failed.0 failed.2 c.in_err-commit.ensures.taken)

pub returns-clause-done : goal.returns-clause-done
unfolding commit_said
returns-clause-done g c out good =
    let workspace = workspace_in (state_shown c.args.state.now) c.args.pool.now c.args.table.now
    c.args.refs.now in
    put_back (record (state_shown c.args.state.now) { chain = c.start_from-changed.new.state.chain })
    (state_shown c.keep_open.new.state)
    (objects c.args.pool.now c.args.table.now.entries) c.args.table.now.committed c.args.refs.now
    (commit_started workspace (commit_shown c.args.from.now))
    c.in_ok-commit.commit c.start_from-changed.new.commit out
    c.start_from-changed.result (ap command_shown c.in_ok-commit.ensures.taken)
    (left_with (state_shown c.args.state.now) (state_shown c.start_from-changed.new.state)
    (state_shown c.keep_open.new.state) _ (commit_held c.start_from-changed.new.commit) c.start_from-changed.new.state.chain
    c.start_from-changed.ensures.same c.keep_open.ensures)
    (c.start_from-changed.ensures.done good)

pub returns-clause-held : goal.returns-clause-held
returns-clause-held g c =
    held_with g.N.Naming.digest_of (objects c.args.pool.now c.args.table.now.entries) (state_shown c.args.state.now)
    (state_shown c.keep_open.new.state) (commit_held c.start_from-changed.new.commit) c.start_from-changed.new.state.chain
    c.start_from-changed.result c.requires.held.kept c.start_from-changed.ensures.chain c.start_from-changed.ensures.held
    (left_with (state_shown c.args.state.now) (state_shown c.start_from-changed.new.state)
    (state_shown c.keep_open.new.state) _ (commit_held c.start_from-changed.new.commit) c.start_from-changed.new.state.chain
    c.start_from-changed.ensures.same c.keep_open.ensures)

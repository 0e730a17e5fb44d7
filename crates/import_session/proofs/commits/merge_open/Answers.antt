use Rattle.std.proofs.Common.{ap}
use Rattle.std.proofs.lemmas.Result.{err_from_is_err_and}
use Rattle.stream_grammar.specs.Shown.{commit_shown}
use Rattle.open_commits.specs.OpenCommit.{commit_held}
use Rattle.import_session.specs.Commits.{commit_merged, commit_said}
use Rattle.stream_commands.specs.State.{command_shown, state_shown, workspace_over}
use Rattle.import_session.proofs.CommitLemmas.{held_with, left_with, not_changing, put_back}
use Rattle.import_session.proofs.commits.merge_open.Goals as goal

pub returns-in_err-commit-clause-done : goal.returns-in_err-commit-clause-done
unfolding commit_said
returns-in_err-commit-clause-done g c out committed good =
    let failed = err_from_is_err_and c.from_residual.result c.from_residual.ensures.1 in
    rw failed.1 (not_changing (state_shown c.args.state.now) _ c.args.objects.now committed c.args.refs.now _ out
    c.in_err-commit.field-0.0 failed.0 failed.2 c.in_err-commit.ensures.taken)

pub returns-clause-done : goal.returns-clause-done
unfolding commit_said
returns-clause-done g c out committed good =
    let workspace = workspace_over (state_shown c.args.state.now) c.args.objects.now committed c.args.refs.now in
    put_back (record (state_shown c.args.state.now) { chain = c.merge-changed.new.state.chain })
    (state_shown c.keep_open.new.state) c.args.objects.now committed c.args.refs.now
    (commit_merged workspace (commit_shown c.args.other.now))
    c.in_ok-commit.commit c.merge-changed.new.commit out
    c.merge-changed.result (ap command_shown c.in_ok-commit.ensures.taken)
    (left_with (state_shown c.args.state.now) (state_shown c.merge-changed.new.state)
    (state_shown c.keep_open.new.state) _ (commit_held c.merge-changed.new.commit) c.merge-changed.new.state.chain
    c.merge-changed.ensures.same c.keep_open.ensures)
    (c.merge-changed.ensures.done committed good)

pub returns-clause-held : goal.returns-clause-held
returns-clause-held g c =
    held_with g.N.Naming.digest_of c.args.objects.now (state_shown c.args.state.now)
    (state_shown c.keep_open.new.state) (commit_held c.merge-changed.new.commit) c.merge-changed.new.state.chain
    c.merge-changed.result c.requires.held.kept c.merge-changed.ensures.chain c.merge-changed.ensures.held
    (left_with (state_shown c.args.state.now) (state_shown c.merge-changed.new.state)
    (state_shown c.keep_open.new.state) _ (commit_held c.merge-changed.new.commit) c.merge-changed.new.state.chain
    c.merge-changed.ensures.same c.keep_open.ensures)

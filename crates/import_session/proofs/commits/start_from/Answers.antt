use Rattle.std.proofs.lemmas.Result.{err_from_is_err_and, IfOk-at_ok}
use Rattle.stream_grammar.specs.Shown.{commit_shown as said_shown}
use Rattle.open_commits.specs.OpenCommit.{shown_in, IsCommitHeld}
use Rattle.open_commits.specs.Parents.{started_from}
use Rattle.tenant_tables.specs.Objects.{objects}
use Rattle.stream_commands.specs.CommitIshes.{start_in}
use Rattle.stream_commands.specs.State.{state_shown, workspace_in}
use Rattle.import_session.proofs.CommitLemmas.{changed_then, held_left, named_refused}
use Rattle.import_session.proofs.SoundCommits.{IsCommitOf, start_good}
use Rattle.import_session.proofs.commits.start_from.Goals as goal

pub returns-in_err-id-clause-done : goal.returns-in_err-id-clause-done
returns-in_err-id-clause-done g c good =
    let workspace = workspace_in (state_shown c.args.state.now) c.args.pool.now c.args.table.now c.args.refs.now in
    let failed = err_from_is_err_and c.from_residual.result c.from_residual.ensures.1 in
    rw failed.1 (named_refused (start_in workspace c.args.commit.now.header.ref_name (said_shown c.args.from.now)) _
    c.in_err-id.field-0.0 failed.0 failed.2 ((rw c.of-objects.ensures at c.in_err-id.ensures.started) c.args.table.now.committed good))

pub returns-clause-done : goal.returns-clause-done
returns-clause-done g c good =
    let workspace = workspace_in (state_shown c.args.state.now) c.args.pool.now c.args.table.now c.args.refs.now in
    let start = start_in workspace c.args.commit.now.header.ref_name (said_shown c.args.from.now) in
    let kind = IfOk-at_ok (IsCommitOf workspace.objects) {r = start} ((rw c.of-objects.ensures at c.in_ok-id.ensures.started) c.args.table.now.committed good)
    (start_good g.N.Naming.digest_of workspace good c.args.commit.now.header.ref_name (said_shown c.args.from.now)) in
    rw c.passed_on.ensures (changed_then start
    (λ id. started_from workspace.objects id (shown_in workspace.objects c.args.commit.now)) c.in_ok-id.id
    (shown_in workspace.objects c.args.commit.now) (shown_in workspace.objects c.start_from.new.self)
    c.start_from.result ((rw c.of-objects.ensures at c.in_ok-id.ensures.started) c.args.table.now.committed good) (c.start_from.ensures.changes good kind))

pub returns-clause-held : goal.returns-clause-held
returns-clause-held g c =
    rw c.passed_on.ensures (held_left (IsCommitHeld (objects c.args.pool.now c.args.table.now.entries) c.start_from.new.self)
    c.start_from.result c.start_from.ensures.held)

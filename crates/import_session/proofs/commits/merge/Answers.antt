use Rattle.std.proofs.lemmas.Result.{err_from_is_err_and}
use Rattle.stream_grammar.specs.Shown.{commit_shown as said_shown}
use Rattle.open_commits.specs.OpenCommit.{shown_in}
use Rattle.open_commits.specs.Parents.{merged}
use Rattle.stream_commands.specs.CommitIshes.{commit_in}
use Rattle.stream_commands.specs.State.{state_shown, workspace_over}
use Rattle.import_session.proofs.CommitLemmas.{changed_then, named_refused}
use Rattle.import_session.proofs.commits.merge.Goals as goal

pub returns-in_err-id-clause-done : goal.returns-in_err-id-clause-done
returns-in_err-id-clause-done g c committed good =
    let workspace = workspace_over (state_shown c.args.state.now) c.args.objects.now committed c.args.refs.now in
    let failed = err_from_is_err_and c.from_residual.result c.from_residual.ensures.1 in
    rw failed.1 (named_refused (commit_in workspace (said_shown c.args.other.now)) _ c.in_err-id.field-0.0 failed.0 failed.2
    (c.in_err-id.ensures.named committed good))

pub returns-clause-done : goal.returns-clause-done
returns-clause-done g c committed good =
    let workspace = workspace_over (state_shown c.args.state.now) c.args.objects.now committed c.args.refs.now in
    rw c.passed_on.ensures (changed_then (commit_in workspace (said_shown c.args.other.now))
    (λ id. merged id (shown_in workspace.objects c.args.commit.now)) c.in_ok-id.id
    (shown_in workspace.objects c.args.commit.now) (shown_in workspace.objects c.merge.new.self) c.merge.result
    (c.in_ok-id.ensures.named committed good) (c.merge.ensures.changes workspace.objects))

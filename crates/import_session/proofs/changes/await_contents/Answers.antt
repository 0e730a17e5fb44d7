use Rattle.std.proofs.Common.{ap}
use Rattle.std.proofs.lemmas.Result.{err_from_is_err_and}
use Rattle.open_commits.specs.OpenCommit.{commit_held}
use Rattle.import_session.specs.Changes.{files_changed}
use Rattle.tenant_tables.specs.Objects.{objects}
use Rattle.stream_commands.specs.State.{command_shown, state_shown}
use Rattle.import_session.proofs.CommitLemmas.{file_waits, not_changing}
use Rattle.import_session.proofs.changes.await_contents.Goals as goal

pub returns-in_err-commit-clause-done : goal.returns-in_err-commit-clause-done
unfolding files_changed
returns-in_err-commit-clause-done c digest pool table refs out =
    let failed = err_from_is_err_and c.from_residual-in_err-commit.result
    c.from_residual-in_err-commit.ensures.1 in
    rw failed.1 (not_changing (state_shown c.args.state.now) _ (objects pool table.entries) table.committed refs _ out
    c.in_err-commit.field-0.0 failed.0 failed.2 c.in_err-commit.ensures.taken)

pub returns-clause-done : goal.returns-clause-done
unfolding files_changed
returns-clause-done c digest pool table refs out =
    rw (c.open.ensures, c.in_ok-path.ensures)
    (file_waits (state_shown c.args.state.now) pool table refs (commit_held c.in_ok-commit.commit)
    (record { mode = c.args.mode; path = c.args.path.now }) out
    (ap command_shown c.in_ok-commit.ensures.taken))

pub returns-clause-files : goal.returns-clause-files
returns-clause-files c digest os holds = record {
  command = rw c.open.ensures (rw c.in_ok-commit.ensures.taken at holds.command);
  kept = holds.kept;
  chain = holds.chain;
}

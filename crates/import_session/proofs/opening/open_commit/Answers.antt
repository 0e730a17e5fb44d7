use Rattle.std.proofs.Common.{Ok, ap, sym, subst}
use Rattle.std.proofs.lemmas.Result.{err_from_is_err_and}
use Rattle.tenant_tables.specs.Objects.{objects}
use Rattle.open_commits.specs.OpenCommit.{commit_held, open_commit_in, header_shown}
use Rattle.stream_parts.specs.OpenCommand.{command_with}
use Rattle.stream_commands.specs.declared.open_command.OpenCommand.{OpenCommand as LentCommand}
use Rattle.stream_commands.specs.State.{StreamState, command_shown, state_shown, workspace_in, CarriesOut}
use Rattle.import_session.specs.Commits.{commit_opened, commit_said}
use Rattle.stream_commands.specs.Held.{ChainStands, HoldsFiles}
use Rattle.import_session.proofs.CommitLemmas.{opened_refused, opened_well, without_command}
use Rattle.import_session.proofs.opening.open_commit.Goals as goal

pub returns-in_err-commit-clause-done : goal.returns-in_err-commit-clause-done
unfolding commit_said
returns-in_err-commit-clause-done g c out sound =
    let workspace = workspace_in (state_shown c.args.state.now) c.args.pool.now c.args.table.now c.args.refs.now in
    let taken = ap (λ (command : LentCommand). command_with
    (open_commit_in (objects c.args.pool.now c.args.table.now.entries)) (command_shown command))
    c.take.ensures.after in
    let failed = err_from_is_err_and c.from_residual-in_err-commit.result c.from_residual-in_err-commit.ensures.1 in
    rw (sym c.take.ensures.taken, c.in-Commit.is, failed.1) (opened_refused workspace _ c.args.mark
    c.args.message.now c.in-Commit.said
    (header_shown c.in_ok-header.header) c.in_err-commit.field-0.0 failed.0 out
    failed.2 c.in_ok-header.ensures
    (c.in_err-commit.ensures.opened c.args.refs.now
    (without_command g.N.Naming.digest_of workspace _ taken sound)))

pub returns-clause-done : goal.returns-clause-done
unfolding commit_said
returns-clause-done g c out sound =
    let workspace = workspace_in (state_shown c.args.state.now) c.args.pool.now c.args.table.now c.args.refs.now in
    let taken = ap (λ (command : LentCommand). command_with
    (open_commit_in (objects c.args.pool.now c.args.table.now.entries)) (command_shown command))
    c.take.ensures.after in
    let opens = c.in_ok-commit.ensures.opened c.args.refs.now
    (without_command g.N.Naming.digest_of workspace _ taken sound) in
    rw (sym c.take.ensures.taken, c.in-Commit.is)
    (subst (λ (state : StreamState). CarriesOut
    (commit_opened c.args.mark c.args.message.now c.in-Commit.said workspace)
    (workspace_in state c.args.pool.now c.args.table.now c.args.refs.now) out out (Ok tt))
    (sym c.keep_open.ensures)
    (opened_well (state_shown c.args.state.now) (state_shown c.open_with.new.state) c.args.pool.now c.args.table.now
    c.args.refs.now c.open_with.new.state.branches (command_shown c.take.new.self) c.open_with.new.state.kept c.args.mark c.args.message.now
    c.in-Commit.said (header_shown c.in_ok-header.header) (commit_held c.in_ok-commit.commit) out
    c.in_ok-header.ensures opens c.in_ok-commit.ensures.state))

pub returns-clause-held : goal.returns-clause-held
returns-clause-held g c =
    subst (HoldsFiles g.N.Naming.digest_of (objects c.args.pool.now c.args.table.now.entries)) (sym c.keep_open.ensures)
    (record {
      command = c.in_ok-commit.ensures.held;
      kept = c.in_ok-commit.ensures.kept;
      chain = subst (ChainStands g.N.Naming.digest_of (objects c.args.pool.now c.args.table.now.entries))
          (sym (ap (λ (state : StreamState). state.chain) c.in_ok-commit.ensures.state)) c.requires.held.chain;
    })

use Rattle.tenant_tables.specs.Objects.{objects}
use Rattle.open_commits.specs.OpenCommit.{shown_in, IsCommitHeld}
use Rattle.open_commits.specs.Parents.{started_from}
use Rattle.import_session.proofs.CommitLemmas.{changes_left, held_left}
use Rattle.import_session.proofs.opening.start.Goals as goal

pub returns-in-Some-clause-started : goal.returns-in-Some-clause-started
returns-in-Some-clause-started g c good tip =
    let os = objects c.args.pool.now c.args.table.now.entries in
    rw (c.in-Some.is, c.passed_on.ensures) (changes_left (started_from os c.in-Some.id (shown_in os c.args.commit.now))
    (shown_in os c.args.commit.now) (shown_in os c.start_from.new.self) c.start_from.result
    (c.start_from.ensures.changes good (rw c.in-Some.is at tip)))

pub returns-in-Some-clause-held : goal.returns-in-Some-clause-held
returns-in-Some-clause-held g c =
    rw c.passed_on.ensures (held_left (IsCommitHeld (objects c.args.pool.now c.args.table.now.entries) c.start_from.new.self)
    c.start_from.result c.start_from.ensures.held)

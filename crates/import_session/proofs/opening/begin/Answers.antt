use Rattle.std.proofs.Common.{ap, sym, ◌∙◌}
use Rattle.tenant_tables.specs.Objects.{objects}
use Rattle.tree_build.specs.Branch.{files_in}
use Rattle.open_commits.specs.OpenCommit.{header_shown}
use Rattle.import_session.specs.Opening.{started_or_cleared}
use Rattle.import_session.proofs.CommitLemmas.{begun_on_first}
use Rattle.import_session.proofs.opening.begin.Goals as goal

pub returns-in-Err-clause-begun : goal.returns-in-Err-clause-begun
returns-in-Err-clause-begun g c good tip other =
    let os = objects c.args.pool.now c.args.table.now.entries in
    sym (begun_on_first os c.args.first (header_shown c.args.header) c.args.message.now
    (files_in os c.args.files))
    ∙ ap (started_or_cleared os c.args.first) (sym (c.in_ok-commit.ensures.begun os))
    ∙ c.in-Err.ensures.started good tip other

pub returns-in-Ok-clause-begun : goal.returns-in-Ok-clause-begun
returns-in-Ok-clause-begun g c good tip =
    let os = objects c.args.pool.now c.args.table.now.entries in
    sym (begun_on_first os c.args.first (header_shown c.args.header) c.args.message.now
    (files_in os c.args.files))
    ∙ ap (started_or_cleared os c.args.first) (sym (c.in_ok-commit.ensures.begun os))
    ∙ c.in-Ok.ensures.started good tip

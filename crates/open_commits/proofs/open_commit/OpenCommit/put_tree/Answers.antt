use Rattle.std.proofs.lemmas.Result.{err_from_is_err_and}
use Rattle.tenant_tables.specs.Objects.{objects}
use Rattle.tree_build.specs.Branch.{files_in}
use Rattle.open_commits.specs.OpenCommit.{shown_in}
use Rattle.open_commits.proofs.FileChanges.{grafts-stored, put-done, put-refused}
use Rattle.open_commits.proofs.open_commit.OpenCommit.put_tree.Goals as goal

pub returns-in_err-graft-clause-changes : goal.returns-in_err-graft-clause-changes
returns-in_err-graft-clause-changes g c =
    let os = objects c.args.pool.now c.args.table.now.entries in
    let failed = err_from_is_err_and c.from_residual.result c.from_residual.ensures.1 in
    rw failed.1 (put-refused (shown_in os c.args.self.now) (files_in os c.graft.new.self) _ _ c.in_err-graft.field-0.0 failed.0 failed.2
    (grafts-stored os _ c.args.tree.now c.args.path.now
    (files_in os c.args.self.now.files) (files_in os c.graft.new.self) c.in_err-graft.ensures.edits))

pub returns-clause-changes : goal.returns-clause-changes
returns-clause-changes g c =
    let os = objects c.args.pool.now c.args.table.now.entries in
    put-done (shown_in os c.args.self.now) (files_in os c.graft.new.self) _ _
    (grafts-stored os _ c.args.tree.now c.args.path.now
    (files_in os c.args.self.now.files) (files_in os c.graft.new.self) c.in_ok-graft.ensures.edits)

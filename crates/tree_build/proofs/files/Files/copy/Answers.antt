use Rattle.std.proofs.Common.{subst}
use Rattle.git_paths.specs.Paths.{IsPath}
use Rattle.tenant_tables.specs.Objects.{objects}
use Rattle.file_maps.specs.Edits.{moved, copied}
use Rattle.tree_build.specs.Branch.{files_in}
use Rattle.tree_build.proofs.Moves.{few-moved, good-put, refused, edits-copied}
use Rattle.tree_build.proofs.files.Files.copy.Goals as goal

pub returns-in_err-node-clause-edits : goal.returns-in_err-node-clause-edits
returns-in_err-node-clause-edits g c =
    let old = files_in (objects c.args.pool.now c.args.table.now.entries) c.args.self.now in
    refused c.from_residual.result _ c.from_residual.ensures.1 old _ _ (copied old c.args.from.now c.args.to.now)
    (rw c.of-objects.ensures at c.in_err-node.ensures.refusal) (rw c.of-objects.ensures at c.in_err-node.ensures.files)

pub put_moved-requires-clause-few : goal.put_moved-requires-clause-few
put_moved-requires-clause-few g c = few-moved _ c.args.from.now c.requires.branch.files _ (rw c.of-objects.ensures at c.in_ok-node.ensures.moved.count)

pub put_moved-requires-clause-good : goal.put_moved-requires-clause-good
put_moved-requires-clause-good g c = rw c.of-objects.ensures (λ few.
    let os = objects c.args.pool.now c.args.table.now.entries in
    let old = files_in os c.args.self.now in
    good-put old old (files_in os c.copy_from.new.self) ((rw c.of-objects.ensures at c.in_ok-node.ensures.files) (λ e. cc e))
    c.args.from.now c.args.to.now c.requires.branch.files c.requires.branch.files
    (subst IsPath c.components.ensures c.has_components.ensures)
    _ (rw c.of-objects.ensures at c.in_ok-node.ensures.moved.files) (rw c.of-objects.ensures at c.in_ok-node.ensures.clean) few)

pub returns-clause-edits : goal.returns-clause-edits
returns-clause-edits g c =
    let os = objects c.args.pool.now c.args.table.now.entries in
    let old = files_in os c.args.self.now in
    edits-copied c.put_moved.result (files_in os c.copy_from.new.self) old
    (files_in os c.put_moved.new.self)
    ((rw c.of-objects.ensures at c.in_ok-node.ensures.files) (λ e. cc e)) c.args.from.now c.args.to.now
    _ (rw c.of-objects.ensures at c.in_ok-node.ensures.moved.files) (rw c.of-objects.ensures at c.in_ok-node.ensures.clean) (rw c.of-objects.ensures at c.put_moved.ensures.edits)

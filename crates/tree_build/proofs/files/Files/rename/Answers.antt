use Rattle.std.proofs.Common.{◌≡◌, sym, subst}
use Rattle.std.specs.Prelude.{None}
use Rattle.tenant_tables.specs.Objects.{objects}
use Rattle.file_maps.specs.Calls.{Edits}
use Rattle.file_maps.specs.Edits.{files_at, moved, renamed, move_fault}
use Rattle.file_maps.specs.FileMap.{FileMap}
use Rattle.tree_build.specs.Branch.{files_in}
use Rattle.tree_build.specs.Moving.{path_fault}
use Rattle.tree_build.proofs.Moves.{refused}
use Rattle.tree_build.proofs.files.Files.rename.Goals as goal

pub returns-in_err-open_source-clause-edits : goal.returns-in_err-open_source-clause-edits
returns-in_err-open_source-clause-edits g c =
    let old = files_in (objects c.args.pool.now c.args.table.now.entries) c.args.self.now in
    refused c.from_residual.result _ c.from_residual.ensures.1 old _ _ (renamed old c.args.from.now c.args.to.now)
    (rw c.of-objects.ensures at c.in_err-open_source.ensures.refusal) (rw c.of-objects.ensures at c.in_err-open_source.ensures.files)

pub move_source-requires-clause-clean : goal.move_source-requires-clause-clean
move_source-requires-clause-clean g c =
    let os = objects c.args.pool.now c.args.table.now.entries in
    rw c.of-objects.ensures
    (subst (λ (m : FileMap). path_fault (moved c.args.to.now (files_at m c.args.from.now)) ≡ None)
    (sym ((rw c.of-objects.ensures at c.in_ok-open_source.ensures.files) (λ e. cc e))) (rw c.of-objects.ensures at c.in_ok-open_source.ensures.clean))

pub returns-clause-edits : goal.returns-clause-edits
returns-clause-edits g c =
    let os = objects c.args.pool.now c.args.table.now.entries in
    subst (λ (m : FileMap). Edits c.move_source.result m (files_in os c.move_source.new.self)
    (move_fault (moved c.args.to.now (files_at m c.args.from.now)) (renamed m c.args.from.now c.args.to.now))
    (renamed m c.args.from.now c.args.to.now))
    ((rw c.of-objects.ensures at c.in_ok-open_source.ensures.files) (λ e. cc e)) (rw c.of-objects.ensures at c.move_source.ensures.edits)

use Rattle.std.proofs.Common.{Result, Err, Option, refl, sym, ap, ◌∙◌, subst}
use Rattle.std.specs.Prelude.{IsSome}
use Rattle.std.proofs.lemmas.Result.{err_from_is_err_and}
use Rattle.tenant_tables.specs.declared.summary.Summary.{Summary}
use Rattle.tenant_tables.specs.Objects.{objects}
use Rattle.tenant_tables.proofs.SumsIn.{table-sums}
use Rattle.file_maps.specs.declared.fault.Fault.{Fault}
use Rattle.file_maps.specs.declared.fault.Fault.TheVariants as fault
use Rattle.file_maps.specs.FileMap.{FileMap, Listed}
use Rattle.file_maps.specs.Edits.{moved, put_tree_at, put_fault}
use Rattle.file_maps.specs.Grafts.{Grafts}
use Rattle.file_maps.specs.StoredFiles.{stored_files}
use Rattle.plain_files.specs.Gathers.{Gathers}
use Rattle.file_maps.proofs.Listing.{tree-apart, tree-sound}
use Rattle.file_maps.proofs.KnownTrees.{known-files, summed-listed}
use Rattle.plain_files.proofs.Grafting.{too_large, grafts-memory, gathered-below, gathered-apart}
use Rattle.plain_files.proofs.Grafting.{grafts-put}
use Rattle.file_maps.proofs.Grafting.{grafts-edits}
use Rattle.plain_files.proofs.files.Files.graft.Goals as goal

pub returns-then-not-is_small : goal.returns-then-not-is_small
returns-then-not-is_small g c =
    let os = objects c.args.pool.now c.args.table.now.entries in
    let id = c.args.name.now in
    let fs = stored_files os id in
    let has = rw c.of.ensures at c.in_ok-tree_summary.ensures.tree in
    let t = summed-listed os id c.in_ok-tree_summary.field-0 has in
    let sum = (known-files os id c.in_ok-tree_summary.field-0 has).1 in
    let refusal =
    too_large c.args.path.now c.self.inside.files.entries fs c.in_ok-tree_summary.field-0 c.self.invariant
    (tree-apart os id fs t.tree) (tree-sound os id fs t.tree) sum
    (sym c.is_small.ensures ∙ c.if-not-is_small.true) in
    grafts-edits os id c.args.path.now c.args.self.now (Err fault.Limit) c.args.self.now fs t
    (λ _. (
      ap (λ (m : FileMap). put_fault (moved c.args.path.now fs) (put_tree_at m c.args.path.now fs))
          (sym c.self.view_is)
          ∙ refusal,
      λ i. c.args.self.now,
    ))

pub gather-requires-clause-tree : goal.gather-requires-clause-tree
gather-requires-clause-tree g c =
    subst (λ (o : Option Summary). IsSome o)
    (sym (table-sums g.N.Naming.digest_of c.args.pool.now c.args.table.now.entries c.requires.stands c.args.name.now
    ∙ (rw c.of.ensures at c.in_ok-tree_summary.ensures.tree))) refl

pub returns-in_err-gather : goal.returns-in_err-gather
returns-in_err-gather g c =
    let os = objects c.args.pool.now c.args.table.now.entries in
    let failed = err_from_is_err_and c.from_residual-in_err-gather.result c.from_residual-in_err-gather.ensures.1 in
    let t = summed-listed os c.args.name.now c.in_ok-tree_summary.field-0 (rw c.of.ensures at c.in_ok-tree_summary.ensures.tree) in
    subst
    (λ (r : Result (Unit {0}) Fault). Grafts r os c.args.name.now c.args.path.now c.args.self.now c.args.self.now)
    (sym (failed.1 ∙ ap (λ (e : Fault). Err e) failed.2))
    (grafts-memory os c.args.name.now c.args.path.now c.args.self.now c.args.self.now (stored_files os c.args.name.now) t.tree)

pub replace-requires-clause-below : goal.replace-requires-clause-below
replace-requires-clause-below g c =
    let os = objects c.args.pool.now c.args.table.now.entries in
    gathered-below os c.args.path.now c.args.name.now c.gather.new.files.items
    (subst (λ (l : Listed). Gathers os c.args.path.now c.args.name.now l c.gather.new.files.items) c.new-files.ensures.items c.in_ok-gather.ensures.gathers)
    c.in_ok-gather.ensures.paths

pub replace-requires-clause-apart : goal.replace-requires-clause-apart
replace-requires-clause-apart g c =
    let os = objects c.args.pool.now c.args.table.now.entries in
    gathered-apart os c.args.path.now c.args.name.now c.gather.new.files.items
    (subst (λ (l : Listed). Gathers os c.args.path.now c.args.name.now l c.gather.new.files.items) c.new-files.ensures.items c.in_ok-gather.ensures.gathers)

pub returns : goal.returns
returns g c =
    let os = objects c.args.pool.now c.args.table.now.entries in
    grafts-put os c.args.name.now c.args.path.now c.args.self.now c.replace.new.self c.replace.result c.gather.new.files.items
    (subst (λ (l : Listed). Gathers os c.args.path.now c.args.name.now l c.gather.new.files.items) c.new-files.ensures.items c.in_ok-gather.ensures.gathers)
    (summed-listed os c.args.name.now c.in_ok-tree_summary.field-0 (rw c.of.ensures at c.in_ok-tree_summary.ensures.tree)).plain
    c.replace.ensures

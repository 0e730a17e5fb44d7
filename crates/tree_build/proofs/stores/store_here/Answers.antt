use Rattle.std.proofs.Common.{◌≡◌, ℕ, List, [], ◌∷◌, None, Result, Ok, Err, refl, sym, ap, ◌∙◌, subst}
use Rattle.std.proofs.lemmas.Result.{err_from_is_err_and}
use Rattle.tenant_tables.specs.Objects.{objects}
use Rattle.file_maps.specs.declared.fault.Fault.{Fault}
use Rattle.file_maps.specs.Trees.{file_of}
use Rattle.file_maps.specs.Storable.{AreStorable}
use Rattle.file_maps.specs.StoredFiles.{stored_files}
use Rattle.tree_build.specs.declared.dir.Node.{Node}
use Rattle.tree_build.specs.Branch.{IsHeld}
use Rattle.tree_build.specs.Nodes.{held}
use Rattle.tree_build.specs.Shape.{shape_files, held_files}
use Rattle.tree_build.proofs.Inside.{no-root, stores-known}
use Rattle.tree_build.proofs.StoredAt.{StoresFiles, stores-none}
use Rattle.tree_build.proofs.stores.store_here.Goals as goal

pub store_dir-requires-clause-storable : goal.store_dir-requires-clause-storable
store_dir-requires-clause-storable g c =
    let k = stored_files (objects c.args.pool.now c.args.table.now.entries) in
    let storable = subst (λ (n : Node). file_of (held_files k (held n)) ≡ None → AreStorable (held_files k (held n))) c.in-Opened.is c.requires.storable in
    storable (no-root k c.in-Opened.dir.entries)

pub returns-in-File-clause-stores : goal.returns-in-File-clause-stores
returns-in-File-clause-stores g c =
    let k = stored_files (objects c.args.pool.now c.args.table.now.entries) in
    subst (λ (n : Node). StoresFiles g.N.Naming.digest_of c.store_none.result c.args.pool.now c.args.table.now c.store_none.new.pool c.store_none.new.table (held_files k (held n)))
    (sym c.in-File.is)
    (stores-none g.N.Naming.digest_of c.store_none.result _ _ _ _ (([], c.in-File.field-0) ∷ []) refl c.store_none.ensures)

pub returns-in-Unopened-clause-stores : goal.returns-in-Unopened-clause-stores
returns-in-Unopened-clause-stores g c =
    let os = objects c.args.pool.now c.args.table.now.entries in
    let k = stored_files os in
    let sound = subst (λ (n : Node). IsHeld os (held n)) c.in-Unopened.is c.requires.sound in
    subst (λ (n : Node). StoresFiles g.N.Naming.digest_of (Ok c.in-Unopened.tree) c.args.pool.now c.args.table.now c.args.pool.now c.args.table.now (held_files k (held n)))
    (sym c.in-Unopened.is)
    (stores-known g.N.Naming.digest_of c.args.pool.now c.args.table.now c.in-Unopened.tree (k c.in-Unopened.tree) c.requires.stands c.requires.room sound.0)

pub returns-in_err-store_dir-in-Opened-clause-stores : goal.returns-in_err-store_dir-in-Opened-clause-stores
returns-in_err-store_dir-in-Opened-clause-stores g c =
    let k = stored_files (objects c.args.pool.now c.args.table.now.entries) in
    let failed = err_from_is_err_and c.from_residual.result c.from_residual.ensures.1 in
    subst (λ (n : Node). StoresFiles g.N.Naming.digest_of c.from_residual.result c.args.pool.now c.args.table.now c.store_dir.new.pool c.store_dir.new.table (held_files k (held n)))
    (sym c.in-Opened.is)
    (subst (λ (r : Result (List ℕ) Fault). StoresFiles g.N.Naming.digest_of r c.args.pool.now c.args.table.now c.store_dir.new.pool c.store_dir.new.table (shape_files k c.in-Opened.dir.entries))
    (sym (failed.1 ∙ ap (λ (e : Fault). Err e) failed.2)) c.in_err-store_dir-in-Opened.ensures.stores)

use Rattle.std.proofs.Common.{◌≡◌, ℕ, List, Option, Some, IfOk, refl, sym, ap, ◌∙◌, subst}
use Rattle.git_model.specs.declared.file_mode.FileMode.TheVariants as mode
use Rattle.tenant_tables.specs.Objects.{objects}
use Rattle.file_maps.specs.declared.entry.Entry.{Entry}
use Rattle.file_maps.specs.FileMap.{Path}
use Rattle.file_maps.specs.StoredFiles.{stored_files}
use Rattle.file_maps.specs.Trees.{tree_id, entry_at}
use Rattle.tree_build.specs.Branch.{Branch, files_in, root_files}
use Rattle.tree_build.specs.Nodes.{held}
use Rattle.tree_build.specs.Shape.{held_files}
use Rattle.tree_build.specs.Standing.{stands_at}
use Rattle.tree_build.proofs.Looked.{entry-path, entry-root, root-file}
use Rattle.tree_build.proofs.Ordered.{branch_listed}
use Rattle.tree_build.proofs.files.Files.entry.Goals as goal

pub returns-then-is_root : goal.returns-then-is_root
returns-then-is_root g c =
    let os = objects c.args.pool.now c.args.table.now.entries in
    let b = c.args.self.now in
    let root = ap (λ (x : Branch). held_files (stored_files os) x.root) c.self.view_is in
    ap (λ (id : List ℕ). Some (record { mode = mode.Directory; name = id }))
    ((rw c.of-objects.ensures at c.in_ok-name.ensures) ∙ ap (tree_id g.N.Naming.digest_of) root)
    ∙ entry-root g.N.Naming.digest_of (files_in os b) (root_files os b) (branch_listed os b c.requires.branch.held)
    (root-file os b.root c.requires.branch.directory c.requires.branch.held)
    ∙ ap (λ (p : Path). entry_at g.N.Naming.digest_of (files_in os b) p) (sym (c.if-is_root.ensures.0 refl))

pub returns : goal.returns
returns g c =
    let os = objects c.args.pool.now c.args.table.now.entries in
    let b = c.args.self.now in
    let root = ap (λ (x : Branch). held_files (stored_files os) x.root) c.self.view_is in
    subst (λ (x : Option Entry). IfOk c.entry_at.result (λ o. o ≡ x))
    (ap (stands_at g.N.Naming.digest_of (held_files (stored_files os) (held c.self.inside.root))) c.components.ensures
    ∙ ap (λ fs. stands_at g.N.Naming.digest_of fs c.args.path.now) root
    ∙ entry-path g.N.Naming.digest_of (files_in os b) (root_files os b) (branch_listed os b c.requires.branch.held) c.args.path.now
    (λ is. let no = c.if-is_root.ensures.1 is in cc no))
    (rw c.of-objects.ensures at c.entry_at.ensures)

use Rattle.std.proofs.Common.{◌≡◌, [], Some, sym, subst, ◌∙◌}
use Rattle.tree_build.specs.Branch.{Branch, IsBranch, files_in, root_name, closed_from, CountsAtMost}
use Rattle.std.proofs.lemmas.Result.{err_from_is_err_and}
use Rattle.tenant_tables.specs.Objects.{objects}
use Rattle.git_model.specs.declared.kind.Kind.TheVariants as kind
use Rattle.git_model.specs.Content.{content_from}
use Rattle.open_commits.specs.OpenCommit.{commit_held, shown_in}
use Rattle.open_commits.proofs.Staying.{closed-held, closed-files}
use Rattle.open_commits.proofs.Additions.{adds-stored, adds-then}
use Rattle.open_commits.proofs.Leavings.{leaves-root, on-refusal, refused-after}
use Rattle.open_commits.proofs.Closings.{trees_refused, closes}
use Rattle.open_commits.proofs.open_commit.OpenCommit.close.Goals as goal

pub returns-in_err-tree-clause-adds : goal.returns-in_err-tree-clause-adds
returns-in_err-tree-clause-adds g c =
    adds-stored c.store-2.result _ _ _ _ _ _ _ c.store-2.ensures.stores

pub returns-in_err-tree-clause-trees : goal.returns-in_err-tree-clause-trees
returns-in_err-tree-clause-trees g c =
    let os = objects c.args.pool.now c.args.table.now.entries in
    on-refusal c.from_residual.result _
    (leaves-root c.store-2.result g.N.Naming.digest_of _ _ _ _ (shown_in os c.args.self.now).files _
    (rw c.root.ensures at c.store-2.ensures.stores))

pub returns-in_err-tree-clause-done : goal.returns-in_err-tree-clause-done
returns-in_err-tree-clause-done g c =
    let failed = err_from_is_err_and c.from_residual.result c.from_residual.ensures.1 in
    let stores = c.in_err-tree.ensures.stores in
    rw failed.1 (trees_refused g.N.Naming.digest_of (objects c.args.pool.now c.args.table.now.entries) (shown_in (objects c.args.pool.now c.args.table.now.entries) c.args.self.now)
    c.in_err-tree.field-0.0 failed.0 failed.2 (rw c.root.ensures at stores.refusal))

pub returns-in_err-contents-clause-adds : goal.returns-in_err-contents-clause-adds
returns-in_err-contents-clause-adds g c =
    adds-stored c.store-2.result _ _ _ _ _ _ _ c.store-2.ensures.stores

pub returns-in_err-contents-clause-trees : goal.returns-in_err-contents-clause-trees
returns-in_err-contents-clause-trees g c =
    let os = objects c.args.pool.now c.args.table.now.entries in
    on-refusal c.from_residual-in_err-contents.result _
    (leaves-root c.store-2.result g.N.Naming.digest_of _ _ _ _ (shown_in os c.args.self.now).files _
    (rw c.root.ensures at c.store-2.ensures.stores))

pub returns-clause-trees : goal.returns-clause-trees
returns-clause-trees g c =
    let os = objects c.args.pool.now c.args.table.now.entries in
    refused-after c.store-3.result g.N.Naming.digest_of _ os _ _ _ _
    (leaves-root c.store-2.result g.N.Naming.digest_of _ _ _ _ (shown_in os c.args.self.now).files _
    (rw c.root.ensures at c.store-2.ensures.stores))
    c.store-3.ensures.same

pub returns-clause-adds : goal.returns-clause-adds
returns-clause-adds g c =
    adds-then _ _ _ _ _ _
    (adds-stored c.store-2.result _ _ _ _ _ _ _ c.store-2.ensures.stores)
    c.store-3.ensures.adds

pub returns-clause-done : goal.returns-clause-done
returns-clause-done g c =
    let stores = rw c.root.ensures at c.in_ok-tree.ensures.stores in
    let os = objects c.args.pool.now c.args.table.now.entries in
    let is = c.deref.ensures.value ∙ c.in_ok-contents.ensures.contents os in
    closes g.N.Naming.digest_of (objects c.args.pool.now c.args.table.now.entries) (shown_in (objects c.args.pool.now c.args.table.now.entries) c.args.self.now)
    c.in_ok-tree.tree c.deref.result.now _ _ c.store-3.result stores.0 stores.1 stores.2.objects is c.store-3.ensures.name c.store-3.ensures.done

pub returns-clause-held : goal.returns-clause-held
returns-clause-held g c =
    closed-held g.N.Naming.digest_of (content_from kind.Commit c.deref.result.now) (objects c.store-2.new.pool c.store-2.new.table.entries)
    (objects c.store-3.new.pool c.store-3.new.table.entries) (commit_held c.contents_with.new.self) c.store-3.result c.store-3.ensures.done
    (subst (λ (b : Branch). IsBranch (objects c.store-2.new.pool c.store-2.new.table.entries) b) (sym c.in_ok-contents.ensures.files) c.in_ok-tree.ensures.branch)

pub returns-clause-files : goal.returns-clause-files
returns-clause-files g c =
    let os = objects c.args.pool.now c.args.table.now.entries in
    let mid = objects c.store-2.new.pool c.store-2.new.table.entries in
    let same = sym c.in_ok-contents.ensures.files in
    closed-files g.N.Naming.digest_of (content_from kind.Commit c.deref.result.now) os mid
    (objects c.store-3.new.pool c.store-3.new.table.entries) (commit_held c.args.self.now) (commit_held c.contents_with.new.self)
    c.in_ok-tree.tree c.store-3.result c.store-3.ensures.done
    (subst (λ (b : Branch). IsBranch mid b) same c.in_ok-tree.ensures.branch)
    (subst (λ (b : Branch). files_in mid b ≡ files_in os c.args.self.now.files) same c.in_ok-tree.ensures.files)
    (rw c.root.ensures at c.in_ok-tree.ensures.stores).0
    (subst (λ (b : Branch). root_name b ≡ Some c.in_ok-tree.tree) same (c.in_ok-tree.ensures.named c.root.ensures))
    (subst (λ (b : Branch). CountsAtMost c.args.self.now.files b (closed_from c.args.self.now.files.root [])) same
    (rw c.root.ensures at c.in_ok-tree.ensures.reads))

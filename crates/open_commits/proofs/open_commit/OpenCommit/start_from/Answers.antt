use Rattle.std.proofs.Common.{rules, List, ℕ, Some, sym, ap, ◌∙◌, ◌++◌, ◌∷◌, []}
use Rattle.std.proofs.lemmas.Result.{err_from_is_err_and}
use Rattle.tenant_tables.specs.Objects.{objects}
use Rattle.open_commits.specs.OpenCommit.{shown_in}
use Rattle.open_commits.proofs.Starting.{start-done, start-refused}
use Rattle.open_commits.proofs.open_commit.OpenCommit.start_from.Goals as goal

pub returns-in_err-put_tree-clause-changes : goal.returns-in_err-put_tree-clause-changes
returns-in_err-put_tree-clause-changes g c good kind =
    let os = objects c.args.pool.now c.args.table.now.entries in
    let failed = err_from_is_err_and c.from_residual-in_err-put_tree.result c.from_residual-in_err-put_tree.ensures.1 in
    let told = c.in_ok-tree.ensures good kind in
    let refused = rw c.root.ensures at c.in_err-put_tree.ensures.changes in
    rw failed.1 (start-refused os c.args.id c.in_ok-tree.tree (shown_in os c.args.self.now)
    (shown_in os c.put_tree-2.new.self) c.in_err-put_tree.field-0.0 failed.0 told failed.2 refused)

pub returns-clause-changes : goal.returns-clause-changes
returns-clause-changes g c good kind =
    let os = objects c.args.pool.now c.args.table.now.entries in
    let told = c.in_ok-tree.ensures good kind in
    let put = rw c.root.ensures at c.in_ok-put_tree.ensures.changes in
    start-done os c.args.id c.in_ok-tree.tree c.push.new.self.items (shown_in os c.args.self.now)
    (shown_in os c.put_tree-2.new.self) told put
    (search rules ∙ ap (λ (l : List (List ℕ)). l ++ c.args.id ∷ []) c.clear.ensures.items)

pub returns-clause-kept : goal.returns-clause-kept
returns-clause-kept g c good kind known =
    c.in_ok-put_tree.ensures.kept c.root.ensures
    (known ∙ ap (λ (t : List ℕ). Some t) (sym (c.in_ok-tree.ensures good kind)))

use Rattle.std.proofs.Common.{◌≡◌, ℕ, sym, ap, ◌∙◌, subst, arith}
use Rattle.tenant_tables.specs.Objects.{objects}
use Rattle.file_maps.specs.FileMap.{Path, Listed}
use Rattle.file_maps.specs.Edits.{cut}
use Rattle.file_maps.specs.Storable.{AreStorable}
use Rattle.file_maps.specs.StoredFiles.{stored_files}
use Rattle.tree_build.specs.Branch.{Branch, IsBranch, files_in}
use Rattle.tree_build.specs.Nodes.{held}
use Rattle.tree_build.specs.Shape.{held_files}
use Rattle.tree_build.specs.Stores.{bare_held}
use Rattle.tree_build.proofs.Later.{stores-grow}
use Rattle.tree_build.proofs.Ordered.{branch_listed}
use Rattle.tree_build.proofs.StoredAt.{StoresFiles, closed-same, branch-kept, root-storable}
use Rattle.tree_build.proofs.files.Files.store.Goals as goal
use Rattle.tree_build.proofs.files.Files.store.Goals.{After-store_path}
use Rattle.tree_build.proofs.files.Files.store.Given.{Over}

pub store_path-requires-clause-storable : goal.store_path-requires-clause-storable
store_path-requires-clause-storable g c =
    let os = objects c.args.pool.now c.args.table.now.entries in
    λ none. subst (λ (b : Branch). AreStorable (held_files (stored_files os) b.root)) (sym c.self.view_is)
    (root-storable os c.args.self.now c.requires.branch)

pub returns-clause-stores : goal.returns-clause-stores
returns-clause-stores g c =
    let os = objects c.args.pool.now c.args.table.now.entries in
    let k = stored_files os in
    subst (λ (l : Listed). StoresFiles g.N.Naming.digest_of c.store_path.result c.args.pool.now c.args.table.now c.store_path.new.pool c.store_path.new.table l)
    (ap (λ (p : Path). cut p (held_files k (held c.self.inside.root))) c.components.ensures
    ∙ ap (λ (b : Branch). cut c.args.at.now (held_files k b.root)) c.self.view_is
    ∙ ap (cut c.args.at.now) (sym (branch_listed os c.args.self.now c.requires.branch.held)))
    c.store_path.ensures.stores

-- the branch is the same among more objects
kept : (g : Over) (c : After-store_path g) (reads : ℕ)
    → (let new : Branch = record { root = held c.store_path.new.node; files = c.self.inside.files; reads = reads } in
    let after = objects c.store_path.new.pool c.store_path.new.table.entries in
    IsBranch after new × (files_in after new ≡ files_in (objects c.args.pool.now c.args.table.now.entries) c.args.self.now))
kept g c reads =
    let grows = stores-grow g.N.Naming.digest_of c.store_path.result c.args.pool.now c.store_path.new.pool c.args.table.now c.store_path.new.table _ _ c.store_path.ensures.stores in
    branch-kept _ _ grows c.args.self.now _ c.requires.branch
    (c.store_path.ensures.same ∙ ap (λ (b : Branch). bare_held b.root) c.self.view_is)
    c.store_path.ensures.sound (ap (λ (b : Branch). b.files) c.self.view_is)

pub returns-clause-branch : goal.returns-clause-branch
returns-clause-branch g c = (kept g (goal.at.returns-clause-branch g c).After-store_path _).0

pub returns-clause-files : goal.returns-clause-files
returns-clause-files g c = (kept g (goal.at.returns-clause-files g c).After-store_path _).1

pub returns-clause-open : goal.returns-clause-open
returns-clause-open g c =
    λ q. let same = closed-same (held c.store_path.new.node) c.args.self.now.root q
    (c.store_path.ensures.same ∙ ap (λ (b : Branch). bare_held b.root) c.self.view_is) in
    omega (arith, same)

use Rattle.std.proofs.Common.{◌≡◌, Bool, Ok, Err, Some, None, refl, sym, ap, ◌∙◌}
use Rattle.git_paths.specs.Paths.{strip_prefix}
use Rattle.tenant_tables.specs.declared.summary.Summary.{Summary}
use Rattle.tenant_tables.specs.Objects.{objects}
use Rattle.file_maps.specs.declared.fault.Fault.TheVariants as fault
use Rattle.file_maps.specs.FileMap.{Path}
use Rattle.file_maps.specs.Storable.{files_summary}
use Rattle.file_maps.specs.StoredFiles.{stored_files}
use Rattle.file_maps.proofs.Backed.{of_table}
use Rattle.file_maps.proofs.Grafting.{grafts-edits}
use Rattle.tree_build.specs.Branch.{files_in}
use Rattle.tree_build.specs.Limits.{may_stand}
use Rattle.tree_build.proofs.Limits.{put_limit}
use Rattle.tree_build.proofs.Grafted.{IsStored, tree-here, placeable, root-edits, root-branch}
use Rattle.tree_build.proofs.files.Files.graft.Goals as goal
use Rattle.tree_build.proofs.files.Files.graft.Goals.{In_ok-summary, After-may_stand}
use Rattle.tree_build.proofs.files.Files.graft.Given.{Over}

-- the tree that is put
put : (g : Over) (c : In_ok-summary g)
    → IsStored (objects c.args.pool.now c.args.table.now.entries) c.args.name.now
    c.in_ok-summary.summary
put g c =
    tree-here c.in_ok-summary.summary
    (rw c.of-objects.ensures at c.in_ok-summary.ensures.tree)

-- whether its files may stand at the path
stand : (g : Over) (c : After-may_stand g) (b : Bool) → c.may_stand.result ≡ b
    → may_stand c.args.path.now
    (files_summary
    (stored_files (objects c.args.pool.now c.args.table.now.entries) c.args.name.now)) ≡ b
stand g c b is =
    let stored = tree-here c.in_ok-summary.summary (rw c.of-objects.ensures at c.in_ok-summary.ensures.tree) in
    ap (may_stand c.args.path.now) (sym stored.sum) ∙ sym c.may_stand.ensures ∙ is

pub returns-then-not-may_stand-clause-edits : goal.returns-then-not-may_stand-clause-edits
returns-then-not-may_stand-clause-edits g c =
    let os = objects c.args.pool.now c.args.table.now.entries in
    let id = c.args.name.now in
    let at = goal.at.returns-then-not-may_stand-clause-edits g c in
    let tree = (put g at.In_ok-summary).tree in
    let fs = placeable os id tree in
    let old = files_in os c.args.self.now in
    grafts-edits os id c.args.path.now old (Err fault.Limit) old (stored_files os id) tree
    (λ _. (
      put_limit c.args.path.now (stored_files os id) old c.requires.branch.files fs.sound fs.apart
          (stand g at.After-may_stand _ c.if-not-may_stand.true),
      refl,
    ))

pub returns-then-is_root-clause-edits : goal.returns-then-is_root-clause-edits
returns-then-is_root-clause-edits g c =
    let os = objects c.args.pool.now c.args.table.now.entries in
    let id = c.args.name.now in
    let at = goal.at.returns-then-is_root-clause-edits g c in
    let tree = (put g at.In_ok-summary).tree in
    let root = c.is_root.ensures.0 c.if-is_root.true in
    grafts-edits os id c.args.path.now (files_in os c.args.self.now) (Ok tt)
    (files_in os c.take_tree.new.self) (stored_files os id) tree
    (root-edits g.N.Naming.digest_of os (of_table g.N.Naming.digest_of c.args.pool.now c.args.table.now.entries c.requires.stands) id
    tree
    (ap (λ (p : Path). may_stand p (files_summary (stored_files os id))) (sym root)
    ∙ stand g at.After-may_stand _ c.if-not-may_stand.false)
    c.in_ok-summary.summary.files c.args.self.now c.take_tree.new.self c.args.path.now root
    c.requires.branch c.take_tree.ensures)

pub returns-then-is_root-clause-branch : goal.returns-then-is_root-clause-branch
returns-then-is_root-clause-branch g c memory =
    let os = objects c.args.pool.now c.args.table.now.entries in
    let id = c.args.name.now in
    let at = goal.at.returns-then-is_root-clause-branch g c in
    let stored = put g at.In_ok-summary in
    let root = c.is_root.ensures.0 c.if-is_root.true in
    root-branch g.N.Naming.digest_of os (of_table g.N.Naming.digest_of c.args.pool.now c.args.table.now.entries c.requires.stands) id
    stored.tree
    (ap (λ (p : Path). may_stand p (files_summary (stored_files os id))) (sym root)
    ∙ stand g at.After-may_stand _ c.if-not-may_stand.false)
    c.in_ok-summary.summary.files c.args.self.now c.take_tree.new.self
    (ap (λ (s : Summary). s.files) stored.sum) c.requires.branch c.take_tree.ensures

pub returns-then-is_root-clause-open : goal.returns-then-is_root-clause-open
returns-then-is_root-clause-open g c =
    λ q apart. absurd
    (let root = sym (c.is_root.ensures.0 c.if-is_root.true) in
    let here : Some q ≡ None = ap (λ (p : Path). strip_prefix p q) root ∙ apart in cc here)

pub put_tree-requires-clause-tree : goal.put_tree-requires-clause-tree
put_tree-requires-clause-tree g c =
    rw c.of-objects.ensures (put g (goal.at.put_tree-requires-clause-tree g c).In_ok-summary).tree

pub put_tree-requires-clause-files : goal.put_tree-requires-clause-files
put_tree-requires-clause-files g c =
    rw c.of-objects.ensures
    (ap (λ (s : Summary). s.files)
    (put g (goal.at.put_tree-requires-clause-files g c).In_ok-summary).sum)

pub put_tree-requires-clause-fits : goal.put_tree-requires-clause-fits
put_tree-requires-clause-fits g c =
    rw c.of-objects.ensures
    (stand g (goal.at.put_tree-requires-clause-fits g c).After-may_stand _ c.if-not-may_stand.false)

pub returns-clause-edits : goal.returns-clause-edits
returns-clause-edits g c =
    let os = objects c.args.pool.now c.args.table.now.entries in
    let id = c.args.name.now in
    grafts-edits os id c.args.path.now (files_in os c.args.self.now) c.put_tree.result
    (files_in os c.put_tree.new.self) (stored_files os id)
    (put g (goal.at.returns-clause-edits g c).In_ok-summary).tree (rw c.of-objects.ensures at c.put_tree.ensures.edits)

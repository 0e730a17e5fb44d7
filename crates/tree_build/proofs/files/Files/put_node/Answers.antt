use Rattle.std.proofs.Common.{◌≡◌, ◌≤◌, ◌-◌, ◌++◌, length, sym, ap, ◌∙◌, subst, arith, true, Ok, Err}
use Rattle.file_maps.specs.declared.fault.Fault.TheVariants as fault
use Rattle.file_maps.specs.StoredFiles.{stored_files}
use Rattle.tree_build.specs.declared.dir.Node.{Node}
use Rattle.tree_build.specs.declared.dir.Node.TheVariants.{Opened}
use Rattle.tree_build.specs.Shape.{opened, Shape, Held, Directory, shape_files, held_files}
use Rattle.tree_build.specs.Branch.{Branch, IsHeld, closed_along}
use Rattle.tree_build.specs.Editing.{new_directory, placed, taken}
use Rattle.tree_build.specs.Nodes.{held}
use Rattle.tree_build.specs.Opened.{recounted}
use Rattle.tree_build.specs.Replacing.{PutsNode}
use Rattle.tree_build.proofs.Branches.{branch_few}
use Rattle.tree_build.proofs.Puts.{total_few, puts_nothing, puts_there, opens_there}
use Rattle.tree_build.proofs.Searched.{ordered}
use Rattle.tree_build.proofs.files.Files.put_node.Goals as goal
use Rattle.tree_build.proofs.files.Files.put_node.Goals.{In-Opened, After-taken}
use Rattle.tree_build.proofs.files.Files.put_node.Given.{Over}

-- the root is an opened directory
root : (g : Over) (c : In-Opened g)
    → c.args.self.now.root ≡ record { what = opened c.in-Opened.dir.tree; inside = c.in-Opened.dir.entries }
root g c = sym (ap (λ (x : Branch). x.root) c.self.view_is) ∙ ap held c.in-Opened.is

-- how many files go
gone : (g : Over) (c : After-taken g)
    → c.taken.result ≡ taken (stored_files c.args.objects.now) true c.args.path.now c.in-Opened.dir.entries
gone g c =
    let os = c.args.objects.now in
    c.taken.ensures ∙ ap (λ (d : Directory). taken (stored_files os) true c.args.path.now d.entries) c.dir.view_is

pub place-requires : goal.place-requires
place-requires g c =
    let os = c.args.objects.now in
    let at = goal.at.place-requires g c in
    ordered os c.in-Opened.dir.entries (subst (λ (x : Held). IsHeld os x) (root g at.In-Opened) c.requires.may.branch.held).1

pub taken-requires-clause-few : goal.taken-requires-clause-few
taken-requires-clause-few g c =
    let os = c.args.objects.now in
    let at = goal.at.taken-requires-clause-few g c in
    subst (λ (d : Directory). length (shape_files (stored_files os) d.entries) ≤ 1048576) (sym c.dir.view_is)
    (subst (λ (x : Held). length (held_files (stored_files os) x) ≤ 1048576) (root g at.In-Opened)
    (branch_few os (recounted os c.args.self.now) c.requires.may.branch))

pub overflow_sub-files : goal.overflow_sub-files
overflow_sub-files g c =
    let at = goal.at.overflow_sub-files g c in
    let all = c.requires.may.counted in
    let goes = gone g at.After-taken in
    let few = total_few c.requires.may c.requires.some c.has_components.ensures (root g at.In-Opened) in
    omega arith

pub returns-then-files-gt-FILES_LIMIT-clause-puts : goal.returns-then-files-gt-FILES_LIMIT-clause-puts
returns-then-files-gt-FILES_LIMIT-clause-puts g c =
    let os = c.args.objects.now in
    let at = goal.at.returns-then-files-gt-FILES_LIMIT-clause-puts g c in
    let branch : Node → Branch = λ n. record { root = held n; files = c.self.inside.files; reads = c.self.inside.reads } in
    subst (PutsNode os (Err fault.Limit) c.args.path.now (held c.args.node) c.args.self.now)
    (sym (ap branch (sym c.in-Opened.is) ∙ c.self.view_is))
    (puts_nothing c.requires.may c.requires.some c.has_components.ensures (root g at.In-Opened)
    c.taken.result (gone g at.After-taken) c.if-files-gt-FILES_LIMIT.true)

pub returns-in_ok-place-in-Opened-clause-puts : goal.returns-in_ok-place-in-Opened-clause-puts
returns-in_ok-place-in-Opened-clause-puts g c =
    let os = c.args.objects.now in
    let at = goal.at.returns-in_ok-place-in-Opened-clause-puts g c in
    let tree = c.in_ok-place-in-Opened.ensures.tree c.requires.some in
    let entries = c.in_ok-place-in-Opened.ensures.entries in
    let is : held (Opened c.place.new.dir) ≡ new_directory (placed c.args.path.now (held c.args.node) c.in-Opened.dir.entries) =
    λ i. record { what = opened (tree i); inside = entries i } in
    subst (λ (x : Held). PutsNode os (Ok tt) c.args.path.now (held c.args.node) c.args.self.now
    (record { root = x; files = c.args.total - c.taken.result; reads = c.self.inside.reads }))
    (sym is)
    (puts_there c.requires.may c.requires.some c.has_components.ensures (root g at.In-Opened)
    c.taken.result (gone g at.After-taken) c.self.inside.reads (ap (λ (x : Branch). x.reads) c.self.view_is)
    c.if-files-gt-FILES_LIMIT.false)

pub returns-in_ok-place-in-Opened-clause-there : goal.returns-in_ok-place-in-Opened-clause-there
returns-in_ok-place-in-Opened-clause-there g c = λ rest.
    let at = goal.at.returns-in_ok-place-in-Opened-clause-there g c in
    ap (λ (s : Shape). closed_along s (c.args.path.now ++ rest)) c.in_ok-place-in-Opened.ensures.entries
    ∙ opens_there c.requires.may c.requires.some c.has_components.ensures (root g at.In-Opened) rest

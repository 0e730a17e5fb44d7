use Rattle.std.proofs.Common.{◌≡◌, ◌≤◌, ◌-◌, ℕ, length, sym, ap, ◌∙◌, subst, arith}
use Rattle.file_maps.specs.StoredFiles.{stored_files}
use Rattle.tree_build.specs.declared.dir.Node.{Node}
use Rattle.tree_build.specs.declared.dir.Node.TheVariants.{Opened}
use Rattle.tree_build.specs.Shape.{opened, Shape, Held, Directory, shape_files, held_files}
use Rattle.tree_build.specs.Branch.{Branch, IsHeld, IsBranch, files_in, closed_along, closed_from}
use Rattle.tree_build.specs.Editing.{new_directory, dropped, taken}
use Rattle.tree_build.specs.Nodes.{held}
use Rattle.tree_build.proofs.Branches.{branch_few, drop_files, drop_branch, drop_few}
use Rattle.tree_build.proofs.OpenStays.{open_dropped}
use Rattle.tree_build.proofs.Taken.{none_gone}
use Rattle.tree_build.proofs.Searched.{ordered}
use Rattle.tree_build.proofs.files.Files.take_out.Goals as goal
use Rattle.tree_build.proofs.files.Files.take_out.Goals.{In-Opened, After-taken-gone, After-take_at}
use Rattle.tree_build.proofs.files.Files.take_out.Given.{Over}

-- the root is an opened directory
root : (g : Over) (c : In-Opened g)
    → c.args.self.now.root ≡ record { what = opened c.in-Opened.dir.tree; inside = c.in-Opened.dir.entries }
root g c = sym (ap (λ (x : Branch). x.root) c.self.view_is) ∙ ap held c.in-Opened.is

-- to which the directories are opened
shut : (g : Over) (c : In-Opened g) → closed_along c.in-Opened.dir.entries c.args.path.now ≡ 0
shut g c = subst (λ (x : Held). closed_from x c.args.path.now ≡ 0) (root g c) c.requires.shut

-- how many files go
gone : (g : Over) (c : After-taken-gone g)
    → c.taken-gone.result ≡ taken (stored_files c.args.objects.now) c.args.clear c.args.path.now c.in-Opened.dir.entries
gone g c =
    let os = c.args.objects.now in
    c.taken-gone.ensures ∙ ap (λ (d : Directory). taken (stored_files os) c.args.clear c.args.path.now d.entries) c.dir.view_is

-- the root without them
left : (g : Over) (c : After-take_at g)
    → held (Opened c.take_at.new.dir) ≡ new_directory (dropped c.args.clear c.args.path.now c.in-Opened.dir.entries)
left g c =
    let tree = c.take_at.ensures.tree c.requires.some in
    let entries = c.take_at.ensures.entries in
    λ i. record { what = opened (tree i); inside = entries i }

pub take_at-requires : goal.take_at-requires
take_at-requires g c =
    let os = c.args.objects.now in
    let at = goal.at.take_at-requires g c in
    ordered os c.in-Opened.dir.entries (subst (λ (x : Held). IsHeld os x) (root g at.In-Opened) c.requires.branch.held).1

pub taken-gone-requires-clause-few : goal.taken-gone-requires-clause-few
taken-gone-requires-clause-few g c =
    let os = c.args.objects.now in
    let at = goal.at.taken-gone-requires-clause-few g c in
    subst (λ (d : Directory). length (shape_files (stored_files os) d.entries) ≤ 1048576) (sym c.dir.view_is)
    (subst (λ (x : Held). length (held_files (stored_files os) x) ≤ 1048576) (root g at.In-Opened)
    (branch_few os c.args.self.now c.requires.branch))

pub overflow_sub-self : goal.overflow_sub-self
overflow_sub-self g c =
    let os = c.args.objects.now in
    let at = goal.at.overflow_sub-self g c in
    let goes = gone g at.After-taken-gone in
    let same = ap (λ (x : Branch). x.files) c.self.view_is in
    let few = drop_few os c.args.clear c.args.path.now c.requires.some c.in-Opened.dir.entries c.in-Opened.dir.tree
    c.args.self.now (root g at.In-Opened) c.requires.branch (shut g at.In-Opened) in
    omega arith

pub returns-else-gone-eq0-clause-branch : goal.returns-else-gone-eq0-clause-branch
returns-else-gone-eq0-clause-branch g c =
    let os = c.args.objects.now in
    let at = goal.at.returns-else-gone-eq0-clause-branch g c in
    let goes = gone g at.After-taken-gone in
    let same = ap (λ (x : Branch). x.files) c.self.view_is in
    subst (λ (h : Held). IsBranch os (record { root = h; files = c.self.inside.files - c.taken-gone.result; reads = c.self.inside.reads }))
    (sym (left g at.After-take_at))
    (drop_branch os c.args.clear c.args.path.now c.requires.some c.in-Opened.dir.entries c.in-Opened.dir.tree
    c.args.self.now (root g at.In-Opened) c.requires.branch (shut g at.In-Opened) _ _
    (ap (λ (n : ℕ). n - c.taken-gone.result) same ∙ ap (λ (n : ℕ). c.args.self.now.files - n) goes))

pub returns-else-gone-eq0-clause-files : goal.returns-else-gone-eq0-clause-files
returns-else-gone-eq0-clause-files g c =
    let os = c.args.objects.now in
    let at = goal.at.returns-else-gone-eq0-clause-files g c in
    ap (λ (h : Held). files_in os (record { root = h; files = c.self.inside.files - c.taken-gone.result; reads = c.self.inside.reads }))
    (left g at.After-take_at)
    ∙ drop_files os c.args.clear c.args.path.now c.requires.some c.in-Opened.dir.entries c.in-Opened.dir.tree
    c.args.self.now (root g at.In-Opened) c.requires.branch (shut g at.In-Opened) _ _

pub returns-else-gone-eq0-clause-open : goal.returns-else-gone-eq0-clause-open
returns-else-gone-eq0-clause-open g c = λ q.
    let os = c.args.objects.now in
    let is = root g (goal.at.returns-else-gone-eq0-clause-open g c).In-Opened in
    let sound = subst (λ (x : Held). IsHeld os x) is c.requires.branch.held in
    let old = ap (λ (x : Held). closed_from x q) is in
    let new = ap (λ (s : Shape). closed_along s q) c.take_at.ensures.entries in
    let less = open_dropped os c.args.clear c.args.path.now c.in-Opened.dir.entries sound.1 q in
    omega arith

pub returns-then-gone-eq0-clause-files : goal.returns-then-gone-eq0-clause-files
returns-then-gone-eq0-clause-files g c =
    let os = c.args.objects.now in
    let at = goal.at.returns-then-gone-eq0-clause-files g c in
    ap (λ (n : Node). files_in os (record { root = held n; files = c.self.inside.files; reads = c.self.inside.reads })) (sym c.in-Opened.is)
    ∙ ap (files_in os) c.self.view_is
    ∙ none_gone os c.args.clear c.args.path.now c.requires.some c.in-Opened.dir.entries c.in-Opened.dir.tree
    c.args.self.now (root g at.In-Opened) c.requires.branch (shut g at.In-Opened)
    (sym (gone g at.After-taken-gone) ∙ c.if-gone-eq0.true)

use Rattle.std.proofs.Common.{◌≡◌, ◌≤◌, ◌+◌, ◌-◌, length, sym, ap, ◌∙◌, subst, arith}
use Rattle.file_maps.specs.StoredFiles.{stored_files}
use Rattle.tree_build.specs.Shape.{held_files}
use Rattle.tree_build.specs.Branch.{Branch, root_files, IsHeld}
use Rattle.tree_build.specs.Nodes.{held}
use Rattle.tree_build.specs.Opened.{recounted}
use Rattle.tree_build.proofs.Branches.{branch_few}
use Rattle.tree_build.proofs.Moved.{no_components, puts_root}
use Rattle.tree_build.proofs.files.Files.put_here.Goals as goal
use Rattle.tree_build.proofs.files.Files.put_here.Goals.{After-count}
use Rattle.tree_build.proofs.files.Files.put_here.Given.{Over}

pub count-requires-clause-sound : goal.count-requires-clause-sound
count-requires-clause-sound g c =
    let os = c.args.objects.now in
    subst (λ (x : Branch). IsHeld os x.root) (sym c.self.view_is) c.requires.may.branch.held

pub count-requires-clause-few : goal.count-requires-clause-few
count-requires-clause-few g c =
    let os = c.args.objects.now in
    subst (λ (x : Branch). length (root_files os x) ≤ 1048576) (sym c.self.view_is)
    (branch_few os (recounted os c.args.self.now) c.requires.may.branch)

-- all files but those of the node go
all : (g : Over) (c : After-count g)
    → c.args.total ≡ c.count.result
    + length (held_files (stored_files c.args.objects.now) (held c.args.node))
all g c =
    let os = c.args.objects.now in
    let before = c.requires.may.counted in
    let same = ap (λ (x : Branch). length (root_files os x)) c.self.view_is in
    let goes = c.count.ensures in
    omega arith

pub overflow_sub-files : goal.overflow_sub-files
overflow_sub-files g c = let n = all g (goal.at.overflow_sub-files g c).After-count in omega arith

pub returns-then-len-eq0 : goal.returns-then-len-eq0
returns-then-len-eq0 g c =
    let n = all g (goal.at.returns-then-len-eq0 g c).After-count in
    let root = no_components c.args.to.now (sym c.len.ensures ∙ c.if-len-eq0.true) in
    puts_root c.requires.may (c.requires.directory root) c.requires.few (c.args.total - c.count.result) (omega arith)
    c.self.inside.reads (ap (λ (x : Branch). x.reads) c.self.view_is) root

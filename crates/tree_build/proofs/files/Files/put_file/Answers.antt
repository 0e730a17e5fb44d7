use Rattle.std.proofs.Common.{sym, ap, subst, arith}
use Rattle.tree_build.specs.Shape.{Held}
use Rattle.tree_build.specs.Branch.{Branch, IsBranch}
use Rattle.tree_build.specs.Nodes.{held}
use Rattle.tree_build.specs.Putting.{file_held, PutsHeld}
use Rattle.tree_build.proofs.Branches.{branch_few}
use Rattle.tree_build.proofs.OneWalk.{gone_few, after_edits, after_branch, after_open, after_shut}
use Rattle.tree_build.proofs.files.Files.put_file.Goals as goal
use Rattle.tree_build.proofs.files.Files.put_file.Goals.{In_ok-gone}
use Rattle.tree_build.proofs.files.Files.put_file.Given.{Over}

pub put_inside-requires-clause-few : goal.put_inside-requires-clause-few
put_inside-requires-clause-few g c =
    let os = c.args.objects.now in
    branch_few os _ (subst (IsBranch os) (sym c.self.view_is) c.requires.branch)

pub overflow_add-total : goal.overflow_add-total
overflow_add-total g c =
    let same = ap (λ (x : Branch). x.files) c.self.view_is in
    let room = c.requires.room in omega arith

-- the root after the walk
puts : (g : Over) (c : In_ok-gone g)
    → PutsHeld c.args.objects.now c.args.path.now (file_held c.args.entry) c.args.self.now.root
    (held c.put_inside.new.node) c.in_ok-gone.gone
puts g c =
    subst (λ (x : Held). PutsHeld c.args.objects.now c.args.path.now (file_held c.args.entry) x
    (held c.put_inside.new.node) c.in_ok-gone.gone)
    (ap (λ (x : Branch). x.root) c.self.view_is) c.in_ok-gone.ensures.puts

pub overflow_sub-files : goal.overflow_sub-files
overflow_sub-files g c =
    let os = c.args.objects.now in
    let same = ap (λ (x : Branch). x.files) c.self.view_is in
    let few = gone_few os c.args.entry c.requires.file c.requires.name c.args.path.now c.requires.some c.has_components.ensures
    c.args.self.now c.requires.branch (held c.put_inside.new.node) c.in_ok-gone.gone (puts g (goal.at.overflow_sub-files g c).In_ok-gone) in
    omega arith

pub returns-clause-edits : goal.returns-clause-edits
returns-clause-edits g c =
    let os = c.args.objects.now in
    after_edits os c.args.entry c.requires.file c.requires.name c.args.path.now c.requires.some c.has_components.ensures
    c.args.self.now c.requires.branch (held c.put_inside.new.node) c.in_ok-gone.gone (puts g (goal.at.returns-clause-edits g c).In_ok-gone)
    c.requires.room _ _

pub returns-clause-branch : goal.returns-clause-branch
returns-clause-branch g c = λ _.
    let os = c.args.objects.now in
    let same = ap (λ (x : Branch). x.files) c.self.view_is in
    after_branch os c.args.entry c.requires.file c.requires.name c.args.path.now c.requires.some c.has_components.ensures
    c.args.self.now c.requires.branch (held c.put_inside.new.node) c.in_ok-gone.gone (puts g (goal.at.returns-clause-branch g c).In_ok-gone)
    c.requires.within c.requires.room _ _ (omega arith)

pub returns-clause-open : goal.returns-clause-open
returns-clause-open g c =
    let os = c.args.objects.now in
    after_open os c.args.entry c.requires.file c.requires.name c.args.path.now c.requires.some c.has_components.ensures
    c.args.self.now c.requires.branch (held c.put_inside.new.node) c.in_ok-gone.gone (puts g (goal.at.returns-clause-open g c).In_ok-gone)

pub returns-clause-shut : goal.returns-clause-shut
returns-clause-shut g c =
    let os = c.args.objects.now in
    after_shut os c.args.entry c.requires.file c.requires.name c.args.path.now c.requires.some c.has_components.ensures
    c.args.self.now c.requires.branch (held c.put_inside.new.node) c.in_ok-gone.gone (puts g (goal.at.returns-clause-shut g c).In_ok-gone)

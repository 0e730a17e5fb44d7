use Rattle.std.proofs.lemmas.Result.{on_ok_weaker}
use Rattle.repository_copies.proofs.ObjectSteps.{commit-added, commit-at}
use Rattle.repository_copies.proofs.TreeSteps.{tree-at}
use Rattle.repository_copies.proofs.copying.add_commit.Goals as goal

pub returns-in_default : goal.returns-in_default
returns-in_default g c good lt told are whole =
    let at = commit-at g.N.Naming.digest_of c.args.objects.now good c.args.place lt c.args.contents.now told in
    let tree = tree-at g.N.Naming.digest_of c.args.objects.now good at.commit.tree at.tree in
    let none = c.in_default.ensures at.commit at.writable at.contents tree.within in absurd cc

pub returns : goal.returns
returns g c good lt told are whole =
    let os = c.args.objects.now in
    let at = commit-at g.N.Naming.digest_of os good c.args.place lt c.args.contents.now told in
    let tree = tree-at g.N.Naming.digest_of os good at.commit.tree at.tree in
    let trees = c.in_ok-add_trees.ensures good at.commit.tree at.tree
    (let found = c.in-Some.ensures at.commit at.writable at.contents tree.within in cc) are whole in
    on_ok_weaker c.add.result
    (commit-added g.N.Naming.digest_of os good c.args.place lt c.args.contents.now at
    c.args.found.now c.add_trees.new.found c.add.new.self trees)
    (c.add.ensures g.N.Naming.digest_of os good lt trees.found)

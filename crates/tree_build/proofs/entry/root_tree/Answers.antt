use Rattle.std.proofs.Common.{◌≡◌, sym, subst}
use Rattle.file_maps.specs.Trees.{tree_id}
use Rattle.file_maps.specs.StoredFiles.{stored_files}
use Rattle.tree_build.specs.declared.dir.Node.{Node}
use Rattle.tree_build.specs.Shape.{held_files}
use Rattle.tree_build.specs.Branch.{IsHeld}
use Rattle.tree_build.specs.Nodes.{held}
use Rattle.tree_build.proofs.Here.{known-name}
use Rattle.tree_build.proofs.entry.root_tree.Goals as goal

pub returns-in-Unopened : goal.returns-in-Unopened
returns-in-Unopened g c =
    let os = c.args.objects.now in
    let t = (subst (λ (n : Node). IsHeld os (held n)) c.in-Unopened.is c.requires.sound).0 in
    subst (λ (n : Node). c.in-Unopened.tree ≡ tree_id g.N.Naming.digest_of (held_files (stored_files os) (held n))) (sym c.in-Unopened.is)
    (known-name g.N.Naming.digest_of c.args.objects.now c.are_backed.ensures c.in-Unopened.tree (stored_files os c.in-Unopened.tree) t)

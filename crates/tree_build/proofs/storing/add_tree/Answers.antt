use Rattle.tree_build.specs.Nodes.{shape_of}
use Rattle.tree_build.specs.Stores.{entries_of_shape}
use Rattle.tree_build.proofs.Added.{rows-list, tree-kept}
use Rattle.std.proofs.Common.{Ok, refl}
use Rattle.tree_build.proofs.storing.add_tree.Goals as goal

pub returns-in-Some-clause-stores : goal.returns-in-Some-clause-stores
returns-in-Some-clause-stores g c =
    tree-kept g.N.Naming.digest_of c.args.pool.now c.args.table.now c.requires.stands
    (shape_of c.args.entries.now.items) c.requires.sound c.requires.named c.requires.storable
    c.requires.room c.in-Some.ensures.ids c.in-Some.name (rw c.of.ensures at c.in-Some.ensures.there)

pub returns-in-Some-clause-lists : goal.returns-in-Some-clause-lists
returns-in-Some-clause-lists g c =
    rows-list g.N.Naming.digest_of c.args.pool.now c.args.table.now c.requires.stands
    (shape_of c.args.entries.now.items) c.requires.sound c.requires.named c.requires.storable
    (entries_of_shape (shape_of c.args.entries.now.items)) refl c.in-Some.ensures.ids
    c.args.pool.now c.args.table.now (Ok c.in-Some.name)
    (tree-kept g.N.Naming.digest_of c.args.pool.now c.args.table.now c.requires.stands
    (shape_of c.args.entries.now.items) c.requires.sound c.requires.named c.requires.storable
    c.requires.room c.in-Some.ensures.ids c.in-Some.name (rw c.of.ensures at c.in-Some.ensures.there))

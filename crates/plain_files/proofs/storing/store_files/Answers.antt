use Rattle.std.proofs.Common.{ℕ, List, [], sym, ◌∙◌, subst}
use Rattle.git_model.specs.Tree.{TreeEntry}
use Rattle.file_maps.specs.Trees.{depth_of, trees_within, entries_within, tree_name}
use Rattle.plain_files.specs.Below.{files_below}
use Rattle.file_maps.specs.Storing.{StoresTrees}
use Rattle.file_maps.proofs.Cutting.{trees-none, entries-none}
use Rattle.plain_files.proofs.storing.store_files.Goals as goal

pub returns-in-Some : goal.returns-in-Some
returns-in-Some g c =
    let files = files_below c.args.files.now in
    let none = c.requires.file c.in-Some.field-0 (sym c.file_of.ensures ∙ c.in-Some.is) in
    subst
    (λ (t : List (List TreeEntry)). StoresTrees c.store_trees.result g.N.Naming.digest_of c.args.pool.now c.args.table.now c.store_trees.new.pool c.store_trees.new.table t
    (tree_name g.N.Naming.digest_of (entries_within g.N.Naming.digest_of (depth_of files) files)))
    (trees-none g.N.Naming.digest_of (depth_of files) files none)
    (subst
    (λ (es : List TreeEntry). StoresTrees c.store_trees.result g.N.Naming.digest_of c.args.pool.now c.args.table.now c.store_trees.new.pool c.store_trees.new.table
    (trees_within g.N.Naming.digest_of 0 []) (tree_name g.N.Naming.digest_of es))
    (entries-none g.N.Naming.digest_of (depth_of files) files none) c.store_trees.ensures.stores)

pub returns-in-None : goal.returns-in-None
returns-in-None g c =
    let files = files_below c.args.files.now in
    subst
    (λ (n : ℕ). StoresTrees c.store_trees-in-None.result g.N.Naming.digest_of c.args.pool.now c.args.table.now c.store_trees-in-None.new.pool c.store_trees-in-None.new.table
    (trees_within g.N.Naming.digest_of n files) (tree_name g.N.Naming.digest_of (entries_within g.N.Naming.digest_of n files)))
    c.depth_of.ensures c.store_trees-in-None.ensures.stores

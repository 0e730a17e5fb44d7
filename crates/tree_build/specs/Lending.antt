-- What the entries of a directory are after the node of one was changed.
use Rattle.std.specs.Prelude.{ℕ}
use Rattle.std.specs.Borrow.{Lends, MutBor, Fml}
use Rattle.tree_build.specs.declared.dir.Node.{Node}
use Rattle.tree_build.specs.contracts.dir.Node.{the_row as node_row}
use Rattle.tree_build.specs.contracts.dir.Entries.{the_row}
use Rattle.tree_build.specs.Chunks.{Listing, with_node}

abbrev pub LendsNode : MutBor Listing → ℕ → MutBor Node → Fml
LendsNode l place n = Lends the_row node_row l n (with_node l.now place n.now)

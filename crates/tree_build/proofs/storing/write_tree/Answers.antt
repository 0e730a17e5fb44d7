use Rattle.std.proofs.Common.{ℕ, List, sym, ap, ◌∙◌, subst}
use Rattle.git_model.specs.Tree.{tree_contents}
use Rattle.tenant_tables.specs.Trees.{FitsTree}
use Rattle.tree_build.specs.Chunks.{all}
use Rattle.tree_build.specs.Nodes.{shape_of}
use Rattle.tree_build.specs.Stores.{entries_of_shape}
use Rattle.tree_build.proofs.Spots.{Row}
use Rattle.tree_build.proofs.Added.{rows-small, rows-fit, rows-list}
use Rattle.tree_build.proofs.storing.write_tree.Goals as goal

pub summary_of-summary-requires-clause-small : goal.summary_of-summary-requires-clause-small
summary_of-summary-requires-clause-small g c =
    rows-small g.N.Naming.digest_of c.args.pool.now c.args.table.now c.requires.stands
    (shape_of c.args.entries.now.items) c.requires.sound c.requires.named c.requires.storable
    (entries_of_shape (shape_of (all c.chunks-chunks.result.now)))
    (ap (λ (l : List Row). entries_of_shape (shape_of l)) c.chunks-chunks.ensures) c.in_ok-contents.ensures.ids

pub add_contents-requires-clause-fits : goal.add_contents-requires-clause-fits
add_contents-requires-clause-fits g c =
    subst (λ (b : List ℕ). FitsTree c.args.table.now.entries b c.summary_of-summary.result) (sym c.in_ok-contents.ensures.contents)
    (rows-fit g.N.Naming.digest_of c.args.pool.now c.args.table.now c.requires.stands
    (shape_of c.args.entries.now.items) c.requires.sound c.requires.named c.requires.storable
    (entries_of_shape (shape_of (all c.chunks-chunks.result.now)))
    (ap (λ (l : List Row). entries_of_shape (shape_of l)) c.chunks-chunks.ensures) c.in_ok-contents.ensures.ids
    c.summary_of-summary.result c.summary_of-summary.ensures)

pub returns-clause-lists : goal.returns-clause-lists
returns-clause-lists g c =
    rows-list g.N.Naming.digest_of c.args.pool.now c.args.table.now c.requires.stands
    (shape_of c.args.entries.now.items) c.requires.sound c.requires.named c.requires.storable
    (entries_of_shape (shape_of (all c.chunks-chunks.result.now)))
    (ap (λ (l : List Row). entries_of_shape (shape_of l)) c.chunks-chunks.ensures) c.in_ok-contents.ensures.ids
    c.add_contents.new.pool c.add_contents.new.table c.add_contents.result
    (c.add_contents.ensures.stores (entries_of_shape (shape_of c.args.entries.now.items))
    (c.in_ok-contents.ensures.contents ∙ ap (λ (l : List Row). tree_contents (entries_of_shape (shape_of l))) c.chunks-chunks.ensures))

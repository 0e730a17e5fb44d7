use Rattle.std.proofs.Common.{sym, ◌∙◌}
use Rattle.git_model.specs.Tree.{slash_of}
use Rattle.git_objects.proofs.Comparisons.{settled_by_fronts, settled_by_rests}
use Rattle.git_objects.proofs.tree_entry.TreeEntry.order.Goals as goal

pub returns-then-is_ne : goal.returns-then-is_ne
returns-then-is_ne c =
    let own = c.split_at-own in
    let others = c.split_at-others in
    rw (own.ensures.by_index.0, others.ensures.by_index.0)
    (settled_by_fronts own.result.0.now others.result.0.now own.result.1.now others.result.1.now (slash_of c.args.self.now.mode) (slash_of c.args.other.now.mode) c.cmp-found.result (own.ensures.front_len ∙ sym others.ensures.front_len) c.cmp-found.ensures (sym c.if-is_ne.true ∙ c.is_ne.ensures))

pub returns : goal.returns
returns c =
    let own = c.split_at-own in
    let others = c.split_at-others in
    rw (own.ensures.by_index.0, others.ensures.by_index.0)
    (settled_by_rests own.result.0.now others.result.0.now own.result.1.now others.result.1.now (slash_of c.args.self.now.mode) (slash_of c.args.other.now.mode) c.cmp-found.result c.order_of_rests.result (own.ensures.front_len ∙ sym others.ensures.front_len) c.cmp-found.ensures (sym c.if-is_ne.false ∙ c.is_ne.ensures) c.order_of_rests.ensures)

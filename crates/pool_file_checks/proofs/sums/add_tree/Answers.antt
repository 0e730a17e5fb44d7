use Rattle.pool_file_checks.proofs.SumLemmas.{tree_added}
use Rattle.pool_file_checks.proofs.sums.add_tree.Goals as goal

pub returns : goal.returns
returns c =
    let f = rw c.in-Some.is at c.in_ok-sum.ensures in
    tree_added c.args.id c.args.bytes.now c.in-Some.sum c.args.sums.now.entries c.insert.new.self.entries f c.in_ok-insert.ensures.updates.0

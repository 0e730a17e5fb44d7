use Rattle.std.proofs.Common.{arith}
use Rattle.name_index.proofs.SharedDigits.{most_committed}
use Rattle.name_index.proofs.index.NameIndex.most_shared_committed.Goals as goal

pub returns-then-self : goal.returns-then-self
returns-then-self c =
    rw (← c.self.view_is)
    (let runs = rw c.deref.ensures.value at c.most_in_runs-most.ensures in
    let few = rw c.as_slice.ensures.value at c.most_among.ensures in
    let all =
    most_committed c.args.id.now c.self.inside.runs.items c.self.inside.few.items c.self.inside.base
    c.self.inside.closed c.if-self.true in
    omega (arith, runs, few, all, c.max.ensures))

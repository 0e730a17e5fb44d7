use Rattle.std.proofs.Common.{arith}
use Rattle.name_index.proofs.SharedDigits.{most_in_sight}
use Rattle.name_index.proofs.index.NameIndex.most_shared_all.Goals as goal

pub returns : goal.returns
returns c =
    rw (← c.self.view_is)
    (let runs = rw c.as_slice.ensures.value at c.most_in_runs-most.ensures in
    let few = rw c.as_slice-2.ensures.value at c.most_among.ensures in
    let all =
    most_in_sight c.args.id.now c.self.inside.runs.items c.self.inside.few.items c.self.inside.base
    c.self.inside.closed c.self.invariant in
    omega (arith, runs, few, all, c.max.ensures))

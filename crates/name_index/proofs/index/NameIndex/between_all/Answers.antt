use Rattle.std.proofs.Common.{◌∙◌}
use Rattle.name_index.proofs.Counted.{found_in_sight}
use Rattle.name_index.proofs.index.NameIndex.between_all.Goals as goal

pub returns : goal.returns
returns c =
    rw (← c.self.view_is)
    (let few = rw (c.as_slice-2.ensures.value, c.in_runs-found.ensures, c.as_slice.ensures.value) at c.among.ensures in
    few
    ∙ found_in_sight c.args.first.now c.args.last.now c.self.inside.runs.items c.self.inside.few.items
    c.self.inside.base c.self.inside.closed c.self.invariant)

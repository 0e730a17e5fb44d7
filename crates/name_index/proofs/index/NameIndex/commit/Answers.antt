use Rattle.name_index.proofs.Counted.{all_names}
use Rattle.name_index.proofs.index.NameIndex.commit.Goals as goal

pub returns-clause-committed : goal.returns-clause-committed
returns-clause-committed c = rw (← c.self.view_is, c.as_slice.ensures.value)
    (all_names c.self.inside.runs.items c.self.inside.few.items c.self.inside.base c.self.inside.closed c.self.invariant)

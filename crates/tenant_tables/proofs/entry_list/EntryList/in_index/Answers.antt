use Rattle.std.proofs.Common.{sym, ◌∙◌}
use Rattle.name_index.specs.Index.{is_between}
use Rattle.tenant_tables.proofs.FoundLemmas.{found_by_index}
use Rattle.tenant_tables.proofs.entry_list.EntryList.in_index.Goals as goal

pub returns-in-None : goal.returns-in-None
returns-in-None c =
    rw (← c.self.view_is)
    (found_by_index (is_between c.args.first.now c.args.last.now) c.args.all _ _ _ _ c.self.invariant
    (sym c.in-None.is ∙ c.between.ensures))

pub returns-in-One : goal.returns-in-One
returns-in-One c =
    rw (← c.self.view_is)
    (found_by_index (is_between c.args.first.now c.args.last.now) c.args.all _ _ _ _ c.self.invariant
    (sym c.in-One.is ∙ c.between.ensures))

pub returns-in-Many : goal.returns-in-Many
returns-in-Many c =
    rw (← c.self.view_is)
    (found_by_index (is_between c.args.first.now c.args.last.now) c.args.all _ _ _ _ c.self.invariant
    (sym c.in-Many.is ∙ c.between.ensures))

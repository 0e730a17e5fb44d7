use Rattle.tenant_tables.proofs.AddLemmas.{pushed}
use Rattle.tenant_tables.proofs.table.Table.add_held.Goals as goal

pub returns-clause-stands : goal.returns-clause-stands
returns-clause-stands g c =
    (pushed _ _ _ _ _ _ _ _ _ c.in_ok-push_held.ensures.ok c.requires.named c.requires.new c.requires.stands c.requires.summed c.requires.short).stands

pub returns-clause-others : goal.returns-clause-others
returns-clause-others g c =
    (pushed _ _ _ _ _ _ _ _ _ c.in_ok-push_held.ensures.ok c.requires.named c.requires.new c.requires.stands c.requires.summed c.requires.short).others

pub returns-clause-ok : goal.returns-clause-ok
returns-clause-ok g c =
    (pushed _ _ _ _ _ _ _ _ _ c.in_ok-push_held.ensures.ok c.requires.named c.requires.new c.requires.stands c.requires.summed c.requires.short).adds

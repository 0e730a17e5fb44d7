use Rattle.std.proofs.Common.{sym, ap, ◌∙◌}
use Rattle.std.specs.Option.{option_and_then}
use Rattle.tenant_tables.specs.declared.entry.Entry.{Entry}
use Rattle.tenant_tables.proofs.Joined.{entry_named-at}
use Rattle.tenant_tables.proofs.table.Table.summary_with_hint.Goals as goal

pub returns-then-eq : goal.returns-then-eq
returns-then-eq c =
    sym (ap (option_and_then (λ (e : Entry). e.summary))
    (entry_named-at c.args.id.now c.args.self.now.entries c.args.place c.in-Some.found.0 c.in-Some.found.1 c.entry_at.ensures.distinct
    (sym c.entry_at.ensures.entry ∙ c.in-Some.is) (sym c.eq.ensures ∙ c.if-eq.true)))

use Rattle.std.proofs.Common.{take, sym, ap, subst, ◌∙◌}
use Rattle.tenant_tables.specs.IsBackedBy.{IsBackedBy}
use Rattle.tenant_tables.specs.View.{View, Entries}
use Rattle.tenant_tables.proofs.Shared.{IsBackedBy-take, as_view, shares}
use Rattle.tenant_tables.proofs.table.Table.share.Goals as goal

pub hold_all-requires-clause-stands : goal.hold_all-requires-clause-stands
hold_all-requires-clause-stands g c =
    let is = c.in_ok-table.ensures
    ∙ as_view c.args.count _ _ (ap (λ (v : View). take c.args.count v.entries) c.freeze.ensures) in
    subst (λ (es : Entries). IsBackedBy g.N.Naming.digest_of c.args.pool.now es)
    (sym (ap (λ (v : View). v.entries) is))
    (IsBackedBy-take g.N.Naming.digest_of c.args.pool.now c.args.count c.args.self.now.entries c.requires.stands)

pub returns-clause-ok : goal.returns-clause-ok
returns-clause-ok g c =
    let is = c.in_ok-table.ensures
    ∙ as_view c.args.count _ _ (ap (λ (v : View). take c.args.count v.entries) c.freeze.ensures) in
    shares _ _ _ _ _ _ c.requires.stands is c.hold_all.ensures

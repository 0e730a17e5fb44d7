use Rattle.std.proofs.Common.{sym, subst, ◌∙◌}
use Rattle.tenant_refs.specs.Place.{IsInOrder}
use Rattle.tenant_refs.proofs.Entries.{true-T}
use Rattle.tenant_refs.proofs.Merges.{above-rest}
use Rattle.tenant_refs.proofs.changed_entries.move_up_to.Goals as goal

pub returns-clause-above : goal.returns-clause-above
returns-clause-above c =
    above-rest c.args.ref_name.now c.loop-entries.entries.items c.loop-entries.rest.items
    (true-T _ (subst IsInOrder (sym c.loop-entries.invariant.all) c.requires.in_order))
    (sym c.starts_up_to.ensures ∙ c.loop-entries-test.false)

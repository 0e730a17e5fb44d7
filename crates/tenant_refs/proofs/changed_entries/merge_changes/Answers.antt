use Rattle.std.proofs.Common.{sym, subst}
use Rattle.tenant_refs.specs.Place.{IsInOrder}
use Rattle.tenant_refs.proofs.Entries.{T-true, true-T}
use Rattle.tenant_refs.proofs.Merges.{sorted-front}
use Rattle.tenant_refs.proofs.changed_entries.merge_changes.Goals as goal

pub change_entry-requires-clause-in_order : goal.change_entry-requires-clause-in_order
change_entry-requires-clause-in_order c =
    T-true _ (sorted-front c.move_up_to.new.entries.items c.move_up_to.new.rest.items
    (true-T _ (subst IsInOrder (sym c.move_up_to.ensures.all) c.loop-change.invariant.in_order)))

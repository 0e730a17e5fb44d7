use Rattle.std.proofs.Common.{sym}
use Rattle.tenant_service.specs.Entries.{opened_parts_of}
use Rattle.tenant_service.proofs.LentLemmas.{lent-next}
use Rattle.tenant_service.proofs.saving.lend_all_as_opened.Goals as goal

pub loop-place-preserved : goal.loop-place-preserved
loop-place-preserved c =
    lent-next opened_parts_of c.args.tenants.now.entries c.loop-place.lent.items
    c.push.new.self.items c.loop-place.place _ _ c.loop-place.invariant
    (sym (rw c.unwrap.ensures at c.get_index.ensures.entry)) c.in_ok-push.ensures.items
    c.lend_as_opened.ensures

use Rattle.tenant_service.proofs.ExtractLemmas.{all-under}
use Rattle.tenant_service.proofs.extracting.lend_only.Goals as goal

pub returns : goal.returns
returns c =
    all-under c.args.name.now c.args.tenants.now.entries c.in_ok-all.all.items
    c.deref-view-items.result.now c.loop-view.only.items c.loop-view.view-index c.in_ok-all.ensures
    c.deref-view-items.ensures.value c.loop-view-test.false c.loop-view.invariant

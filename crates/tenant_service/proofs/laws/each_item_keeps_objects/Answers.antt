use Rattle.tenant_service.proofs.GrowingLemmas.{item_grows}
use Rattle.tenant_service.proofs.laws.each_item_keeps_objects.Goals as goal

pub returns : goal.returns
returns c = item_grows

use Rattle.std.proofs.Common.{◌≡◌, take}
use Rattle.tenant_service.proofs.ExtractLemmas.{lent_under}
use Rattle.tenant_service.proofs.extracting.lend_only.Given as goal

-- those of the name among the tenants before the place
abbrev pub invariant-loop-view : goal.invariant-loop-view
invariant-loop-view l = l.only.items ≡ lent_under l.name (take l.view-index l.view-items)

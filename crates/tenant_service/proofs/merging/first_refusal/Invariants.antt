use Rattle.std.proofs.Common.{◌≡◌, None, take}
use Rattle.content_pool.specs.Pool.{Cells}
use Rattle.tenant_service.specs.ComingIn.{names_lent}
use Rattle.tenant_service.specs.Merging.{first_refused}
use Rattle.tenant_service.specs.Tenants.{holdings}
use Rattle.tenant_service.proofs.merging.first_refusal.Given as goal

-- none of the tenants before the place is refused
abbrev pub invariant-loop-one : goal.invariant-loop-one
invariant-loop-one l = (pool : Cells)
    → first_refused (names_lent (take l.one-index l.lent)) (holdings pool l.tenants.entries) ≡ None

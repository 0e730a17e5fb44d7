use Rattle.std.proofs.Common.{◌≡◌, List, ℕ, sym, subst}
use Rattle.tenant_service.specs.TenantState.{Idle, empty_repository, held_of}
use Rattle.tenant_service.specs.Tenants.{holdings}
use Rattle.tenant_service.proofs.ExportRunLemmas.{may-take}
use Rattle.tenant_service.proofs.by_places.copy_by_places.Goals as goal

pub copy_named-requires-clause-nothing : goal.copy_named-requires-clause-nothing
copy_named-requires-clause-nothing g c =
    let all = holdings c.args.pool.now c.args.tenants.now.entries in
    subst (λ (name : List ℕ). held_of name all ≡ Idle empty_repository)
    (sym c.in-Ok-name_of.ensures.1)
    (may-take c.args.from.now c.args.to.now all c.requires.free).nothing
